use Rattle.std.proofs.Common.{ℕ, ◌<◌, slice_index_or}
use Rattle.share_tests.proofs.tests.kept.are_places.Given as goal

abbrev pub invariant-loop-k : goal.invariant-loop-k
invariant-loop-k l = record { there : (j d : ℕ) → j < l.k → slice_index_or l.live j d < l.count }
