use Rattle.std.proofs.Common.{◌≡◌, take}
use Rattle.idpf_gen.specs.Made.{of_lines}
use Rattle.generation_lanes.specs.Growing.{begun}
use Rattle.generation_lanes.proofs.blocks.begin_all.Given as goal

abbrev pub invariant-loop-place : goal.invariant-loop-place
invariant-loop-place l = l.lines.items ≡ of_lines (begun l.master l.tag) l.line (take l.place l.strings)
