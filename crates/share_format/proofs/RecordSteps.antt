-- What the reader of a record cites.
use Rattle.std.proofs.Common.{◌≡◌, ℕ, ◌+◌, ◌*◌, ◌<◌, true, false, List, [], ◌∷◌, ◌++◌, None, Some, refl, add-one}
use Rattle.share_format.specs.ShareFile.{first_failing, has_bits, has_elements, block_at, is_level, bits, element, first_fault, words_in, word_of}
use Rattle.share_format.proofs.FailingLaws.{first_failing-zero, first_failing-more, first_failing-found}

pub words_in-zero : (bytes : List ℕ) → words_in bytes 0 ≡ []
unfolding words_in
words_in-zero bytes = refl

pub words_in-more : (bytes : List ℕ) (count : ℕ) → words_in bytes (count + 1) ≡ words_in bytes count ++ word_of (block_at bytes count) ∷ []
unfolding words_in
words_in-more bytes count = rw add-one refl

-- a level that breaks no rule, after others that break none
pub level_passes : (bytes : List ℕ) (place : ℕ) → first_failing (is_level bytes) place ≡ None → has_bits (block_at bytes place) ≡ true
    → has_elements (block_at bytes place) ≡ true → first_failing (is_level bytes) (place + 1) ≡ None
level_passes bytes place none good_bits good = first_failing-more (is_level bytes) place none (rw (good_bits, good) refl)

-- the first level at fault, by its bits
pub bits_fault : (width : ℕ) (bytes : List ℕ) (place : ℕ) → place < 8 * width → first_failing (is_level bytes) place ≡ None
    → has_bits (block_at bytes place) ≡ false → first_fault width bytes ≡ Some (bits (place + 1))
bits_fault width bytes place p none failed =
    rw (first_failing-found (is_level bytes) (8 * width) place p none (rw failed refl), failed) refl

-- the first level at fault, by its numbers
pub element_fault : (width : ℕ) (bytes : List ℕ) (place : ℕ) → place < 8 * width → first_failing (is_level bytes) place ≡ None
    → has_bits (block_at bytes place) ≡ true → has_elements (block_at bytes place) ≡ false → first_fault width bytes ≡ Some (element (place + 1))
element_fault width bytes place p none good_bits failed =
    rw (first_failing-found (is_level bytes) (8 * width) place p none (rw (good_bits, failed) refl), good_bits) refl

pub ruleset level_steps = (first_failing-zero, words_in-zero, words_in-more, level_passes, bits_fault, element_fault)
