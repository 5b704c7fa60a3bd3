-- What out gets of the strings of an answer.
use Rattle.std.specs.Prelude.{ℕ, List, ◌++◌, codes, length}
use Rattle.std.specs.List.{sum_by}
use Rattle.std.specs.Fmt.{decimal}
use Rattle.walk_definitions.specs.Walk.{Heavy}
use Rattle.answer_text.specs.AnswerText.{answer_text}
use Rattle.file_find.specs.declared.texts.OutText.{OutText}
use Rattle.file_find.specs.declared.texts.OutText.TheVariants.{Strings, Summary}

-- how many strings there are, and the sum of their counts
abbrev pub summary_text : List Heavy → List ℕ
summary_text heavy = codes "heavy " ++ (decimal (length heavy) ++ (codes " sum " ++ (decimal (sum_by (λ h. h.count) heavy) ++ codes "\n")))

-- the strings themselves, or their summary
abbrev pub text_of : OutText → List Heavy → List ℕ
text_of Strings heavy = answer_text heavy
text_of Summary heavy = summary_text heavy
