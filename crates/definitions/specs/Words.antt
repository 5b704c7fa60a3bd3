-- The words of ChaCha20, and the values that are read from them. A seed is a list of 32 bytes.
use Rattle.std.specs.Prelude.{ℕ, zero, suc, ◌+◌, ◌*◌, ◌/◌, ◌%◌, ◌^◌, ◌==◌, Bool, List, [], ◌∷◌, ◌++◌, bit_xor}
use Rattle.std.specs.Int.{w32, to_le_bytes}
use Rattle.rand_chacha.specs.ChaCha.{word_at, key_of}
use Rattle.definitions.specs.Field.{modulus}

-- the word below 2 ^ 32 at a place of a stream: 20 rounds, the seed is the key, the stream's number the nonce
unfoldable pub word : List ℕ → ℕ → ℕ → ℕ
word seed stream place = word_at 10 (key_of seed) stream place

-- the bytes of so many words from a place on, each with its lowest byte first
unfoldable pub word_bytes : ℕ → List ℕ → ℕ → ℕ → List ℕ
word_bytes zero seed stream place = []
word_bytes (suc count) seed stream place = word_bytes count seed stream place ++ to_le_bytes w32 (word seed stream (place + count))

-- the 32 bytes of eight words
unfoldable pub part : List ℕ → ℕ → ℕ → List ℕ
part seed stream place = word_bytes 8 seed stream place

-- the number below 2 ^ 128 of four words, the first word the lowest
unfoldable pub number : List ℕ → ℕ → ℕ → ℕ
number seed stream place =
    word seed stream place + word seed stream (place + 1) * 2 ^ 32
    + word seed stream (place + 2) * 2 ^ 64 + word seed stream (place + 3) * 2 ^ 96

-- the same as an element of the field
abbrev pub element : List ℕ → ℕ → ℕ → ℕ
element seed stream place = number seed stream place % modulus

-- two seeds, byte by byte
abbrev pub seed_xor : List ℕ → List ℕ → List ℕ
seed_xor [] ys = []
seed_xor (x ∷ xs) [] = []
seed_xor (x ∷ xs) (y ∷ ys) = bit_xor x y ∷ seed_xor xs ys

-- what a seed expands to: a seed and a bit for each child
pub record Children : Type 0 where
  pub left : List ℕ
  pub right : List ℕ
  pub bit_left : Bool
  pub bit_right : Bool

-- from stream 0: words 0 to 7, words 8 to 15, and the two lowest bits of word 16
abbrev pub extend : List ℕ → Children
extend seed = record {
  left = part seed 0 0;
  right = part seed 0 8;
  bit_left = word seed 0 16 % 2 == 1;
  bit_right = word seed 0 16 / 2 % 2 == 1;
}

-- what a child's seed is converted to: the child's own seed, and two numbers below 2 ^ 128
pub record Converted : Type 0 where
  pub next : List ℕ
  pub u : ℕ
  pub v : ℕ

-- from stream 1: words 0 to 7, words 8 to 11, words 12 to 15
abbrev pub convert : List ℕ → Converted
convert seed = record { next = part seed 1 0; u = number seed 1 8; v = number seed 1 12 }
