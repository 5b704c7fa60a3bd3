use Rattle.std.proofs.Common.{◌≡◌, length, map}
use Rattle.idpf_gen.specs.Made.{of_lines}
use Rattle.generation_lanes.specs.Growing.{begun, levels_down}
use Rattle.generation_lanes.proofs.blocks.grow_all.Given as goal

abbrev pub invariant-loop-level : goal.invariant-loop-level
invariant-loop-level l = record {
  lines : l.lines.items ≡ map (levels_down l.level) (of_lines (begun l.master l.tag) l.line l.strings);
  room : length l.lines.items ≡ l.buffers;
}
