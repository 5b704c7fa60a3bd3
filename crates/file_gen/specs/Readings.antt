-- Why a strings file is not read, or holds no strings, as an error.
use Rattle.std.specs.Prelude.{◌≡◌, ℕ, ◌^◌, ◌<◌, List, Option, None, Some, length}
use Rattle.text_strings.specs.Lines.{LinesCase, too_many, line_long, zero_byte}
use Rattle.text_strings.specs.declared.lines_error.LinesError.TheVariants as lines
use Rattle.file_gen.specs.declared.errors.GenError.{GenError}
use Rattle.file_gen.specs.declared.errors.GenError.TheVariants.{Missing, TooLong, Lines, Shelf, Memory}

-- more bytes than a strings file may have
abbrev pub IsLong : Option (List ℕ) → Type 0
IsLong None = ⊥
IsLong (Some bytes) = 2 ^ 28 < length bytes

-- an error is what the strings file is: not there, or too long; or one of the outside
abbrev pub FitsFile : Option (List ℕ) → GenError → Type 0
FitsFile found Missing = found ≡ None
FitsFile found TooLong = IsLong found
FitsFile found (Lines e) = ⊥
FitsFile found Shelf = Unit {0}
FitsFile found Memory = Unit {0}

-- an error is what the lines are, or want of memory
abbrev pub FitsLines : LinesCase → GenError → Type 0
FitsLines found (Lines (lines.TooMany count)) = found ≡ too_many count
FitsLines found (Lines (lines.LineLong line)) = found ≡ line_long line
FitsLines found (Lines (lines.ZeroByte line)) = found ≡ zero_byte line
FitsLines found (Lines lines.Memory) = Unit {0}
FitsLines found Missing = ⊥
FitsLines found TooLong = ⊥
FitsLines found Shelf = ⊥
FitsLines found Memory = ⊥
