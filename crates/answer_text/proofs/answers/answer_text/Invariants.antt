use Rattle.std.proofs.Common.{◌≡◌, take}
use Rattle.std.specs.List.{flat_map}
use Rattle.answer_text.specs.AnswerText.{heavy_line}
use Rattle.answer_text.proofs.answers.answer_text.Given as goal

abbrev pub invariant-loop-string : goal.invariant-loop-string
invariant-loop-string l = l.text.items ≡ flat_map heavy_line (take l.string-index l.heavy)
