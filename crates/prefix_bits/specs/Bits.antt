-- Bits of bytes and bytes of bits, the highest bit of a byte first, and the order of lists of bits.
use Rattle.std.specs.Prelude.{ℕ, zero, suc, ◌+◌, ◌*◌, Bool, if◌then◌else◌, List, [], ◌∷◌, ◌++◌}
use Rattle.std.specs.Bool.{◌==◌, beq}
use Rattle.std.specs.Int.{bit_at}
use Rattle.std.specs.declared.cmp.Ordering.{Ordering}
use Rattle.std.specs.Ordering.{bool_cmp}
use Rattle.std.specs.Cmp.Lexicographic.{slice_cmp, pointwise}

-- whether the bit of weight 2 ^ place is set
abbrev pub bit : ℕ → ℕ → Bool
bit n place = bit_at n place == 1

-- the lowest bits of a number, so many, the highest of them first
abbrev pub low_bits : ℕ → ℕ → List Bool
low_bits zero n = []
low_bits (suc count) n = bit n count ∷ low_bits count n

-- the 8 bits of a byte
abbrev pub bits_of_byte : ℕ → List Bool
bits_of_byte byte = low_bits 8 byte

-- those of the bytes, one after another
abbrev pub bits_of_bytes : List ℕ → List Bool
bits_of_bytes [] = []
bits_of_bytes (byte ∷ bytes) = bits_of_byte byte ++ bits_of_bytes bytes

-- the number 2 * n with a lowest bit
abbrev pub with_bit : ℕ → Bool → ℕ
with_bit n b = 2 * n + (if b then 1 else 0)

-- the byte of 8 bits
abbrev pub byte_of_bits : Bool → Bool → Bool → Bool → Bool → Bool → Bool → Bool → ℕ
byte_of_bits a b c d e f g h =
    with_bit (with_bit (with_bit (with_bit (with_bit (with_bit (with_bit (with_bit 0 a) b) c) d) e) f) g) h

-- the bytes of each 8 bits; fewer than 8 at the end are left out
abbrev pub bytes_of_bits : List Bool → List ℕ
bytes_of_bits (a ∷ b ∷ c ∷ d ∷ e ∷ f ∷ g ∷ h ∷ bits) = byte_of_bits a b c d e f g h ∷ bytes_of_bits bits
bytes_of_bits bits = []

-- the order of lists of bits: the first place that differs decides, 0 before 1, and a list is before its extensions
abbrev pub bits_cmp : List Bool → List Bool → Ordering
bits_cmp = slice_cmp bool_cmp

-- whether two lists of bits are equal
abbrev pub bits_eq : List Bool → List Bool → Bool
bits_eq = pointwise beq
