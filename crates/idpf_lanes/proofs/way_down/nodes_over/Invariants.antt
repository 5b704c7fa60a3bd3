use Rattle.std.proofs.Common.{◌≡◌, ◌≤◌, length, take}
use Rattle.idpf_lanes.specs.Stands.{Stand}
use Rattle.idpf_lanes.proofs.way_down.nodes_over.Given as goal

abbrev pub invariant-loop-depth : goal.invariant-loop-depth
invariant-loop-depth l = record {
  stand : Stand l.share l.side l.depth l.prefixes (take l.count l.nodes) l.places;
  count : l.count ≤ length l.nodes;
  nodes : length l.nodes ≡ length l.initial.nodes;
  next : length l.next ≡ length l.initial.nodes;
  steps : length l.steps ≡ length l.initial.nodes;
  places : length l.places ≡ length l.prefixes;
  seeds : l.seeds ≡ length l.initial.nodes;
}
