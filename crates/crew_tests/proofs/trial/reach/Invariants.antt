use Rattle.std.proofs.Common.{◌<◌, ◌≤◌, ℕ, length, slice_index_or}
use Rattle.definitions.specs.Evaluation.{Share}
use Rattle.crew_tests.proofs.trial.reach.Given as goal

abbrev pub invariant-loop-share : goal.invariant-loop-share
invariant-loop-share l = (k : ℕ) (d : Share) → k < l.share-index → l.level ≤ length (slice_index_or l.shares k d).levels
