use Rattle.std.proofs.Common.{◌≡◌, ℕ, ◌<◌, List, Bool, length, slice_index_or}
use Rattle.share_tests.proofs.tests.kept.have_bits.Given as goal

abbrev pub invariant-loop-k : goal.invariant-loop-k
invariant-loop-k l = record { long : (j : ℕ) (d : List Bool) → j < l.k → length (slice_index_or l.prefixes j d) ≡ l.level }
