use Rattle.std.proofs.Common.{◌≡◌, length, map, take, slice_index_or}
use Rattle.node_growth.specs.Steps.{no_node}
use Rattle.idpf_lanes.proofs.depths.place.Given as goal

abbrev pub invariant-loop-k : goal.invariant-loop-k
invariant-loop-k l = record {
  same : length l.into ≡ length l.initial.into;
  done : take l.k l.into ≡ map (λ p. slice_index_or l.nodes p no_node) (take l.k l.places);
}
