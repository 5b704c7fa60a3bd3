use Rattle.std.proofs.Common.{◌≡◌, ◌≤◌, ◌+◌, length}
use Rattle.text_strings.specs.Lines.{lines_of, first_fault}
use Rattle.text_strings.proofs.reading.check_lines.Given as goal

abbrev pub invariant-loop-rest : goal.invariant-loop-rest
invariant-loop-rest l = record {
  fault : first_fault l.width l.line (lines_of l.rest) ≡ first_fault l.width 0 (lines_of l.bytes);
  room : l.line + length l.rest ≤ length l.bytes;
}

abbrev pub decreases-loop-rest : goal.decreases-loop-rest
decreases-loop-rest l = length l.rest
