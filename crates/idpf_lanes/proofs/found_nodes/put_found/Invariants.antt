use Rattle.std.proofs.Common.{◌≡◌, ℕ, ◌<◌, ◌≤◌, [], length, slice_index_or}
use Rattle.definitions.specs.Evaluation.{node}
use Rattle.node_growth.specs.Steps.{no_node}
use Rattle.idpf_lanes.proofs.found_nodes.put_found.Given as goal

abbrev pub invariant-loop-k : goal.invariant-loop-k
invariant-loop-k l = record {
  same : length l.into ≡ length l.prefixes;
  done : (j : ℕ) → j < l.k → slice_index_or l.into j no_node ≡ node l.share l.fn.side (slice_index_or l.prefixes j []);
  rest : (j : ℕ) → l.k ≤ j → slice_index_or l.into j no_node ≡ slice_index_or l.initial.into j no_node;
}
