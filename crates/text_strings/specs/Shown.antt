-- How the bytes of a string are shown as text.
use Rattle.std.specs.Prelude.{ℕ, ◌/◌, ◌%◌, ◌&&◌, nat_lt, Bool, not, if◌then◌else◌, List, [], ◌∷◌, reverse}
use Rattle.std.specs.Bool.{◌==◌}
use Rattle.std.specs.Char.{digit_char}
use Rattle.std.specs.List.{flat_map}

-- the bytes from the first on that is not zero
abbrev pub after_zeros : List ℕ → List ℕ
after_zeros [] = []
after_zeros (byte ∷ bytes) = if byte == 0 then after_zeros bytes else byte ∷ bytes

-- the bytes without the zeros at their end
abbrev pub without_end_zeros : List ℕ → List ℕ
without_end_zeros bytes = reverse (after_zeros (reverse bytes))

-- the backslash
abbrev pub backslash : ℕ
backslash = 0x5c

-- whether a byte is shown as itself: a printing character of ASCII, but no space and no backslash
abbrev pub is_plain : ℕ → Bool
is_plain byte = nat_lt 0x20 byte && nat_lt byte 0x7f && not (byte == backslash)

-- the text of a byte: itself where it is plain, else a backslash, an x (0x78) and its digits in base 16, the higher first
abbrev pub shown_byte : ℕ → List ℕ
shown_byte byte =
    if is_plain byte then byte ∷ []
    else backslash ∷ 0x78 ∷ digit_char (byte / 16) ∷ digit_char (byte % 16) ∷ []

-- the text of bytes: that of each of them in turn, but for the zeros at their end
unfoldable pub shown : List ℕ → List ℕ
shown bytes = flat_map shown_byte (without_end_zeros bytes)
