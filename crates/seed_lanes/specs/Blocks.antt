-- The words of several keys' blocks, and what a seed's words are read as.
use Rattle.std.specs.Prelude.{ℕ, ◌+◌, ◌*◌, ◌/◌, ◌%◌, ◌^◌, ◌==◌, List, [], ◌∷◌, drop, slice_index}
use Rattle.rand_chacha.specs.Block.{block_word}
use Rattle.rand_chacha.specs.ChaCha.{seed_of}
use Rattle.rand_chacha.specs.Lanes.{lane_at}
use Rattle.definitions.specs.Words.{Children, Converted, number}

-- the key of lane j
abbrev pub key_lane : ℕ → List (List ℕ) → List ℕ
key_lane j x =
    lane_at x 0 j ∷ lane_at x 1 j ∷ lane_at x 2 j ∷ lane_at x 3 j
    ∷ lane_at x 4 j ∷ lane_at x 5 j ∷ lane_at x 6 j ∷ lane_at x 7 j ∷ []

-- the sixteen words of a key's block after 20 rounds
unfoldable pub block_of : List ℕ → ℕ → ℕ → List ℕ
block_of key counter nonce =
    block_word 10 key counter nonce 0 ∷ block_word 10 key counter nonce 1 ∷ block_word 10 key counter nonce 2 ∷ block_word 10 key counter nonce 3
    ∷ block_word 10 key counter nonce 4 ∷ block_word 10 key counter nonce 5 ∷ block_word 10 key counter nonce 6 ∷ block_word 10 key counter nonce 7
    ∷ block_word 10 key counter nonce 8 ∷ block_word 10 key counter nonce 9 ∷ block_word 10 key counter nonce 10 ∷ block_word 10 key counter nonce 11
    ∷ block_word 10 key counter nonce 12 ∷ block_word 10 key counter nonce 13 ∷ block_word 10 key counter nonce 14 ∷ block_word 10 key counter nonce 15 ∷ []

-- what the sixteen words of a block and the word after them are read as: two seeds, and a bit for each of them
abbrev pub children_from : List ℕ → ℕ → Children
children_from words bits = record {
  left = seed_of words;
  right = seed_of (drop 8 words);
  bit_left = bits % 2 == 1;
  bit_right = bits / 2 % 2 == 1;
}

-- the number of four words from a place on, the first word the lowest
abbrev pub number_from : List ℕ → ℕ → ℕ
number_from words k =
    slice_index words k + slice_index words (k + 1) * 2 ^ 32
    + slice_index words (k + 2) * 2 ^ 64 + slice_index words (k + 3) * 2 ^ 96

-- what the sixteen words of a block are read as: a seed and two numbers
abbrev pub converted_from : List ℕ → Converted
converted_from words = record { next = seed_of words; u = number_from words 8; v = number_from words 12 }

-- three numbers below 2 ^ 128
pub record Numbers : Type 0 where
  pub first : ℕ
  pub second : ℕ
  pub third : ℕ

-- those at the front of a stream of a seed, four words each
abbrev pub numbers_of : ℕ → List ℕ → Numbers
numbers_of stream seed = record { first = number seed stream 0; second = number seed stream 4; third = number seed stream 8 }

-- what the sixteen words of a block are read as: three numbers
abbrev pub numbers_from : List ℕ → Numbers
numbers_from words = record { first = number_from words 0; second = number_from words 4; third = number_from words 8 }
