-- What the bytes and the lines of a strings file say of its answer.
use Rattle.std.proofs.Common.{◌≡◌, ℕ, ◌^◌, ◌≤◌, Bool, false, true, cond, nat_lt, List, Option, None, Some, Ok, Err, length, take, sym, subst, ap, ◌∙◌, arith}
use Rattle.std.proofs.lemmas.Bool.{lt-ltb, le-ltb}
use Rattle.std.proofs.lemmas.List.{take_all}
use Rattle.text_strings.specs.Lines.{LinesCase, strings, lines_case, Tells}
use Rattle.text_strings.specs.declared.lines_error.LinesError.{LinesError}
use Rattle.text_strings.specs.declared.lines_error.LinesError.TheVariants as lines
use Rattle.file_gen.specs.declared.errors.GenError.{GenError}
use Rattle.file_gen.specs.declared.errors.GenError.TheVariants.{Missing, TooLong, Lines, Shelf, Memory}
use Rattle.file_gen.specs.Answers.{lines_answer, strings_answer, Fits}
use Rattle.file_gen.specs.Readings.{FitsFile, FitsLines}

-- an error of the lines is the one that they are
pub lines_fit : (e : LinesError) (found : LinesCase) → Tells e found → FitsLines found (Lines e)
lines_fit (lines.TooMany count) found h = h
lines_fit (lines.LineLong line) found h = h
lines_fit (lines.ZeroByte line) found h = h
lines_fit lines.Memory found h = tt

pub ruleset line_steps = (lines_fit)

-- ---- a strings file that is not too long

judged : (width : ℕ) (bytes : List ℕ) (long : Bool) → nat_lt (2 ^ 28) (length bytes) ≡ long
    → strings_answer width (Some bytes) ≡ cond long (Err TooLong) (lines_answer (lines_case width bytes))
judged width bytes long is = ap (λ b. cond b (Err TooLong) (lines_answer (lines_case width bytes))) is

pub strings_found : (width : ℕ) (bytes : List ℕ) (them : List (List Bool)) → length bytes ≤ 2 ^ 28 → lines_case width bytes ≡ strings them
    → strings_answer width (Some bytes) ≡ Ok them
strings_found width bytes them h e = judged width bytes false (le-ltb (2 ^ 28) (length bytes) h) ∙ ap lines_answer e

fits_case : (found : LinesCase) (e : GenError) → FitsLines found e → Fits (lines_answer found) e
fits_case found (Lines (lines.TooMany count)) h = ap lines_answer h
fits_case found (Lines (lines.LineLong line)) h = ap lines_answer h
fits_case found (Lines (lines.ZeroByte line)) h = ap lines_answer h
fits_case found (Lines lines.Memory) h = tt
fits_case found Missing h = absurd h
fits_case found TooLong h = absurd h
fits_case found Shelf h = absurd h
fits_case found Memory h = absurd h

pub lines_refused : (width : ℕ) (bytes : List ℕ) (e : GenError) → length bytes ≤ 2 ^ 28 → FitsLines (lines_case width bytes) e
    → Fits (strings_answer width (Some bytes)) e
lines_refused width bytes e h fits =
    subst (λ a. Fits a e) (sym (judged width bytes false (le-ltb (2 ^ 28) (length bytes) h))) (fits_case (lines_case width bytes) e fits)

-- they are no fault of the shelf
pub lines_no_shelf : (found : LinesCase) (e : GenError) → FitsLines found e → e ≡ Shelf → ⊥
lines_no_shelf found (Lines error) h is = absurd (cc)
lines_no_shelf found Missing h is = absurd h
lines_no_shelf found TooLong h is = absurd h
lines_no_shelf found Shelf h is = absurd h
lines_no_shelf found Memory h is = absurd h

-- ---- a strings file that is not read

pub file_refused : (width : ℕ) (found : Option (List ℕ)) (e : GenError) → FitsFile found e → Fits (strings_answer width found) e
file_refused width found Missing h = ap (strings_answer width) h
file_refused width None TooLong h = absurd h
file_refused width (Some bytes) TooLong h = judged width bytes true (lt-ltb (2 ^ 28) (length bytes) h)
file_refused width found (Lines e) h = absurd h
file_refused width found Shelf h = tt
file_refused width found Memory h = tt

-- a file of which as many bytes were read as it has
pub all_read : (bytes read : List ℕ) (filled : ℕ) → filled ≡ length bytes → take filled read ≡ take filled bytes → take filled read ≡ bytes
all_read bytes read filled e same = same ∙ take_all filled bytes (omega arith)

pub ruleset byte_steps = (all_read)

pub ruleset string_steps = (strings_found, lines_refused, file_refused, lines_no_shelf)
