use Rattle.std.proofs.Common.{ℕ, ◌<◌, ◌≤◌, length, slice_index_or}
use Rattle.definitions.specs.Evaluation.{Share}
use Rattle.share_tests.proofs.tests.kept.reach.Given as goal

abbrev pub invariant-loop-k : goal.invariant-loop-k
invariant-loop-k l = record { long : (j : ℕ) (d : Share) → j < l.k → l.level ≤ length (slice_index_or l.shares j d).levels }
