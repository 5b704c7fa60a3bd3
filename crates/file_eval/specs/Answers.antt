-- What the values of a share file at a prefix come to, with the causes in their order.
use Rattle.std.specs.Prelude.{◌≡◌, ℕ, ◌*◌, ◌≤◌, Bool, List, Option, None, Some, Result, Ok, Err, IfErr, length, nat_lt}
use Rattle.std.specs.Bool.{if◌then◌else◌}
use Rattle.shelf_io.specs.Faults.{Rose}
use Rattle.definitions.specs.declared.Side.{Side}
use Rattle.share_format.specs.declared.file_error.FileError.TheVariants as files
use Rattle.share_format.specs.ShareFile.{FileCase, too_long, header_wrong, cut, whole, file_case, records}
use Rattle.file_eval.specs.declared.errors.EvalError.{EvalError}
use Rattle.file_eval.specs.declared.errors.EvalError.TheVariants.{File, LongPrefix, Memory}
use Rattle.file_eval.specs.declared.texts.EvalTexts.{EvalTexts}
use Rattle.file_eval.specs.ValueLines.{value_lines, refused_lines}

-- the texts of out and of err, or an error
abbrev pub Answer : Type 0
Answer = Result (List ℕ × List ℕ) EvalError

-- of a file's bytes in the case that they are
abbrev pub case_answer : Side → List Bool → List ℕ → FileCase → Answer
case_answer side prefix bytes (too_long n) = Err (File (files.TooLong n))
case_answer side prefix bytes (header_wrong at) = Err (File (files.Header at))
case_answer side prefix bytes (cut at) = Err (File (files.Cut at))
case_answer side prefix bytes (whole width) =
    if nat_lt (8 * width) (length prefix) then Err (LongPrefix (length prefix) width)
    else Ok (value_lines side prefix (records width bytes), refused_lines side (records width bytes))

-- of the file, where it is there
abbrev pub eval_answer : Side → List Bool → Option (List ℕ) → Answer
eval_answer side prefix None = Err (File files.Missing)
eval_answer side prefix (Some bytes) = case_answer side prefix bytes (file_case side bytes)

-- an answer is the defined one, unless the shelf failed or memory is wanting
abbrev pub Gives : Result EvalTexts EvalError → Answer → Type 0
Gives (Ok texts) defined = defined ≡ Ok (texts.out.items, texts.err.items)
Gives (Err (File files.Missing)) defined = defined ≡ Err (File files.Missing)
Gives (Err (File (files.TooLong n))) defined = defined ≡ Err (File (files.TooLong n))
Gives (Err (File (files.Header at))) defined = defined ≡ Err (File (files.Header at))
Gives (Err (File (files.Cut at))) defined = defined ≡ Err (File (files.Cut at))
Gives (Err (File files.Shelf)) defined = Unit {0}
Gives (Err (File files.Memory)) defined = Unit {0}
Gives (Err (LongPrefix bits width)) defined = defined ≡ Err (LongPrefix bits width)
Gives (Err Memory) defined = Unit {0}

-- the shelf failed, or memory is wanting
abbrev pub IsFault : EvalError → Type 0
IsFault (File files.Missing) = ⊥
IsFault (File (files.TooLong n)) = ⊥
IsFault (File (files.Header at)) = ⊥
IsFault (File (files.Cut at)) = ⊥
IsFault (File files.Shelf) = Unit {0}
IsFault (File files.Memory) = Unit {0}
IsFault (LongPrefix bits width) = ⊥
IsFault Memory = Unit {0}

-- the shelf's count of faults did not fall, and a failed shelf is named only where it rose
pub record HasEvalCause {X : Type 0} (before now : ℕ) (result : Result X EvalError) : Type 0 where
  pub later : before ≤ now
  pub rose : IfErr result (λ e. e ≡ File files.Shelf → Rose before now)
