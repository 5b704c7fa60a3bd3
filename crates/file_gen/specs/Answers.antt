-- What a strings file comes to, with the causes in their order.
use Rattle.std.specs.Prelude.{◌≡◌, ℕ, ◌≤◌, ◌^◌, Bool, List, Option, None, Some, Result, Ok, Err, IfErr, length, nat_lt}
use Rattle.std.specs.Bool.{if◌then◌else◌}
use Rattle.shelf_io.specs.Faults.{Rose}
use Rattle.text_strings.specs.Lines.{LinesCase, too_many, line_long, zero_byte, strings, lines_case}
use Rattle.text_strings.specs.declared.lines_error.LinesError.TheVariants as lines
use Rattle.file_gen.specs.declared.errors.GenError.{GenError}
use Rattle.file_gen.specs.declared.errors.GenError.TheVariants.{Missing, TooLong, Lines, Shelf, Memory}

-- the strings, or an error
abbrev pub Answer : Type 0
Answer = Result (List (List Bool)) GenError

-- of lines in the case that they are
abbrev pub lines_answer : LinesCase → Answer
lines_answer (too_many count) = Err (Lines (lines.TooMany count))
lines_answer (line_long line) = Err (Lines (lines.LineLong line))
lines_answer (zero_byte line) = Err (Lines (lines.ZeroByte line))
lines_answer (strings them) = Ok them

-- the most bytes of a strings file
abbrev pub most_string_bytes : ℕ
most_string_bytes = 2 ^ 28

-- of the strings file, where it is there
abbrev pub strings_answer : ℕ → Option (List ℕ) → Answer
strings_answer width None = Err Missing
strings_answer width (Some bytes) = if nat_lt most_string_bytes (length bytes) then Err TooLong else lines_answer (lines_case width bytes)

-- an error is the defined one, unless the shelf failed or memory is wanting
abbrev pub Fits : Answer → GenError → Type 0
Fits defined Missing = defined ≡ Err Missing
Fits defined TooLong = defined ≡ Err TooLong
Fits defined (Lines (lines.TooMany count)) = defined ≡ Err (Lines (lines.TooMany count))
Fits defined (Lines (lines.LineLong line)) = defined ≡ Err (Lines (lines.LineLong line))
Fits defined (Lines (lines.ZeroByte line)) = defined ≡ Err (Lines (lines.ZeroByte line))
Fits defined (Lines lines.Memory) = Unit {0}
Fits defined Shelf = Unit {0}
Fits defined Memory = Unit {0}

-- the shelf's count of faults did not fall, and a failed shelf is named only where it rose
pub record HasGenCause {X : Type 0} (before now : ℕ) (result : Result X GenError) : Type 0 where
  pub later : before ≤ now
  pub rose : IfErr result (λ e. e ≡ Shelf → Rose before now)
