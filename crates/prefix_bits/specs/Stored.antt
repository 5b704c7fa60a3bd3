-- How a prefix is stored: its first bit is the highest of the first word, and the bits past its end are 0.
use Rattle.std.specs.Prelude.{◌≡◌, ℕ, zero, suc, ◌+◌, ◌-◌, ◌*◌, ◌/◌, ◌%◌, ◌^◌, ◌<◌, ◌≤◌, Bool, false, if◌then◌else◌, List, map, length, slice_index, slice_index_or}
use Rattle.std.specs.List.{range_with_len}
use Rattle.prefix_bits.specs.Bits.{bit}

-- the bit at a place of the words, counted from the highest bit of the first
unfoldable pub stored_bit : List ℕ → ℕ → Bool
stored_bit words place = bit (slice_index words (place / 64)) (63 - place % 64)

-- the first bits of the words
unfoldable pub stored_bits : List ℕ → ℕ → List Bool
stored_bits words len = map (stored_bit words) (range_with_len 0 len)

-- what is true of the words and the length of a prefix
pub record IsStored (count most : ℕ) (words : List ℕ) (len : ℕ) : Type 0 where
  pub within : len ≤ most
  pub count_is : length words ≡ count
  pub room : most ≡ 64 * count
  pub fits : (i : ℕ) → slice_index words i < 2 ^ 64
  pub unused : (place : ℕ) → len ≤ place → place < most → stored_bit words place ≡ false

-- the number whose bits of weight 2 ^ 0, 2 ^ 1, .. are these, so many of them
unfoldable pub number_of : ℕ → (ℕ → Bool) → ℕ
number_of zero bits = 0
number_of (suc count) bits = (if bits count then 2 ^ count else 0) + number_of count bits

-- a word of a list of bits that is followed by zeros
unfoldable pub word_of : List Bool → ℕ → ℕ
word_of bits i = number_of 64 (λ weight. slice_index_or bits (64 * i + (63 - weight)) false)

-- the words of a list of bits
unfoldable pub words_of : ℕ → List Bool → List ℕ
words_of count bits = map (word_of bits) (range_with_len 0 count)
