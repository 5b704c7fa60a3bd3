-- Bytes and their bits: each gives the other back.
use Rattle.std.specs.Prelude.{◌≡◌, ℕ, ◌*◌, ◌^◌, ◌<◌, Bool, List, length}
use Rattle.std.specs.List.{All}
use Rattle.prefix_bits.specs.Bits.{bits_of_bytes, bytes_of_bits}

-- The bytes of the bits of bytes are these bytes.
abbrev pub BytesLaw : Type 0
BytesLaw = (bytes : List ℕ) → All (λ byte. byte < 2 ^ 8) bytes → bytes_of_bits (bits_of_bytes bytes) ≡ bytes

-- The bits of the bytes of so many whole bytes of bits are these bits.
abbrev pub BitsLaw : Type 0
BitsLaw = (count : ℕ) (bits : List Bool) → length bits ≡ 8 * count → bits_of_bytes (bytes_of_bits bits) ≡ bits
