-- The strings of a file of lines, or the first reason to refuse it.
use Rattle.std.specs.Prelude.{◌≡◌, ℕ, ◌+◌, ◌-◌, ◌*◌, ◌^◌, nat_lt, Bool, if◌then◌else◌, List, [], ◌∷◌, ◌++◌, map, length, replicate, Option, None, Some, suc}
use Rattle.std.specs.Bool.{◌==◌}
use Rattle.std.specs.List.{list_any}
use Rattle.std.specs.Option.{unwrap_or}
use Rattle.prefix_bits.specs.Bits.{bits_of_bytes}
use Rattle.text_strings.specs.declared.lines_error.LinesError.{LinesError}
use Rattle.text_strings.specs.declared.lines_error.LinesError.TheVariants.{TooMany, LineLong, ZeroByte, Memory}

-- the byte that ends a line
abbrev pub line_feed : ℕ
line_feed = 0x0a

-- a byte before the first of the lines, or on a line of its own where there is none
abbrev pub put_first : ℕ → List (List ℕ) → List (List ℕ)
put_first byte [] = (byte ∷ []) ∷ []
put_first byte (line ∷ lines) = (byte ∷ line) ∷ lines

-- the lines of bytes: every line feed ends a line and is no part of it; what follows the last one is a line too, unless it is
-- empty
unfoldable pub lines_of : List ℕ → List (List ℕ)
lines_of [] = []
lines_of (byte ∷ bytes) = if byte == line_feed then [] ∷ lines_of bytes else put_first byte (lines_of bytes)

-- a line of at most so many bytes, followed by zero bytes up to this width
abbrev pub padded : ℕ → List ℕ → List ℕ
padded width line = line ++ replicate (width - length line) 0

-- the string of a line: the bits of its padded bytes
abbrev pub string_of : ℕ → List ℕ → List Bool
string_of width line = bits_of_bytes (padded width line)

-- what a file of lines holds: too many lines, with how many; a line that is too long or has a zero byte, with its number
-- counted from 0; or strings
pub data LinesCase : Type 0 where
  too_many : ℕ → LinesCase
  line_long : ℕ → LinesCase
  zero_byte : ℕ → LinesCase
  strings : List (List Bool) → LinesCase

-- the bytes of a file of the shares of so many strings of this width
abbrev pub share_bytes : ℕ → ℕ → ℕ
share_bytes width count = 8 + (80 + 520 * width) * count

-- the most bytes of such a file
abbrev pub most_share_bytes : ℕ
most_share_bytes = 2 ^ 28

-- the most strings that bytes hold at any width: as many as there can be shares of the least width in such a file
abbrev pub most_strings : ℕ
most_strings = 447392

-- whether one of the bytes is zero
abbrev pub has_zero : List ℕ → Bool
has_zero line = list_any (λ byte. byte == 0) line

-- the first line at fault of those from a number on: one with more bytes than the width, or else one with a zero byte
abbrev pub first_fault : ℕ → ℕ → List (List ℕ) → Option LinesCase
first_fault width number [] = None
first_fault width number (line ∷ lines) =
    if nat_lt width (length line) then Some (line_long number)
    else if has_zero line then Some (zero_byte number)
    else first_fault width (suc number) lines

-- what bytes hold at a width: too many lines come before a fault, and a fault before the strings
abbrev pub lines_case : ℕ → List ℕ → LinesCase
lines_case width bytes =
    if nat_lt most_share_bytes (share_bytes width (length (lines_of bytes))) then too_many (length (lines_of bytes))
    else unwrap_or (first_fault width 0 (lines_of bytes)) (strings (map (string_of width) (lines_of bytes)))

-- the bytes hold strings
abbrev pub AreStrings : LinesCase → Type 0
AreStrings found = (them : List (List Bool)) × (found ≡ strings them)

-- an error tells what the bytes hold, with its number; want of memory comes only where they hold strings
abbrev pub Tells : LinesError → LinesCase → Type 0
Tells (TooMany lines) found = found ≡ too_many lines
Tells (LineLong line) found = found ≡ line_long line
Tells (ZeroByte line) found = found ≡ zero_byte line
Tells Memory found = AreStrings found
