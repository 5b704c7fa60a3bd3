use Rattle.std.proofs.Common.{◌≡◌, take}
use Rattle.std.specs.List.{flat_map}
use Rattle.answer_text.specs.RefusedText.{refused_line}
use Rattle.answer_text.proofs.refused.refused_text.Given as goal

abbrev pub invariant-loop-number : goal.invariant-loop-number
invariant-loop-number l = l.text.items ≡ flat_map (refused_line l.side) (take l.number-index l.numbers)
