use Rattle.std.proofs.Common.{◌≡◌, ℕ, ◌<◌, [], length, slice_index_or, None}
use Rattle.std.specs.Prelude.{IfSome}
use Rattle.definitions.specs.Evaluation.{node}
use Rattle.lane_tests.proofs.tests.nodes.find.Given as goal

abbrev pub invariant-loop-k : goal.invariant-loop-k
invariant-loop-k l = record {
  same : length l.found ≡ length l.prefixes;
  done : (j : ℕ) → j < l.k → IfSome (slice_index_or l.found j None) (λ n. n ≡ node l.share l.fn.side (slice_index_or l.prefixes j []));
}
