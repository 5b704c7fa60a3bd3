use Rattle.std.proofs.Common.{◌≡◌, ◌<◌, ℕ, length, slice_index_or}
use Rattle.definitions.specs.Evaluation.{Share}
use Rattle.walk_tests.proofs.pairs.are_whole.Given as goal

abbrev pub invariant-loop-share : goal.invariant-loop-share
invariant-loop-share l = (k : ℕ) (d : Share) → k < l.share-index → length (slice_index_or l.shares k d).levels ≡ 16
