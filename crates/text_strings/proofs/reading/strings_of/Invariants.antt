use Rattle.std.proofs.Common.{◌≡◌, ◌++◌, ℕ, None, length, map}
use Rattle.text_strings.specs.Lines.{lines_of, string_of, first_fault}
use Rattle.text_strings.proofs.reading.strings_of.Given as goal

abbrev pub invariant-loop-rest : goal.invariant-loop-rest
invariant-loop-rest l = record {
  strings : l.found.items ++ map (string_of l.width) (lines_of l.rest) ≡ map (string_of l.width) (lines_of l.bytes);
  good : (number : ℕ) × (first_fault l.width number (lines_of l.rest) ≡ None);
}

abbrev pub decreases-loop-rest : goal.decreases-loop-rest
decreases-loop-rest l = length l.rest
