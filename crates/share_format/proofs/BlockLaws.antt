-- A block of a level and its word: each gives the other back.
use Rattle.std.proofs.Common.{◌≡◌, ℕ, zero, suc, ◌+◌, ◌*◌, ◌/◌, ◌%◌, ◌<◌, ◌≤◌, Bool, true, false, List, ◌∷◌, ◌++◌, length, get_or, take, drop, refl, sym, ap, ap₂, subst, ◌∙◌, inl, inr, arith, ltb, leb}
use Rattle.std.specs.Prelude.{◌==◌, ◌&&◌}
use Rattle.std.specs.Int.{w64, to_le_bytes, from_le_bytes}
use Rattle.std.proofs.lemmas.Bool.{cases_lt}
use Rattle.std.proofs.lemmas.Bool.Decides.{nat_tests}
use Rattle.std.proofs.lemmas.List.{drop-drop, take_all, take_at, get_or_at, get_or-drop, get_or-take, get_or_past, length-take, length-drop, length-append, take-append-drop}
use Rattle.std.proofs.Math.Seq.{drop-cons, drop-append-add}
use Rattle.std.proofs.lemmas.Nat.{le_bytes_8, from_le_bytes-to_le_bytes_8}
use Rattle.definitions.specs.Field.{modulus}
use Rattle.definitions.specs.Evaluation.{LevelWord}
use Rattle.share_format.specs.Spelling.{bit_number, bits_of, numbers_of, block}
use Rattle.share_format.specs.ShareFile.{number_at, word_of, has_bits, has_elements}
use Rattle.share_format.specs.Laws.{IsWord}

-- each is a byte
abbrev pub AreBytes : List ℕ → Type 0
AreBytes xs = (i : ℕ) → get_or xs i 0 < 256

pub AreBytes-drop : (n : ℕ) (xs : List ℕ) → AreBytes xs → AreBytes (drop n xs)
AreBytes-drop n xs h i = rw get_or-drop (h (n + i))

pub AreBytes-take : (n : ℕ) (xs : List ℕ) → AreBytes xs → AreBytes (take n xs)
AreBytes-take n xs h i =
    elim (cases_lt i n) [
      | inl lt ↦ rw (get_or-take n xs i 0 lt) (h i)
      | inr le ↦ rw (get_or_past (take n xs) i 0 (omega (arith, length-take n xs))) (omega arith)
    ]

-- a part and what follows it
pub part_then_rest : (at len : ℕ) (xs : List ℕ) → take len (drop at xs) ++ drop (at + len) xs ≡ drop at xs
part_then_rest at len xs = rw (← drop-drop len at xs) (take-append-drop len (drop at xs))

-- the byte of the bits comes back from the two bits
bits_back : (n : ℕ) → n ≤ 3 → bit_number (n % 2 == 1) + 2 * bit_number (n / 2 % 2 == 1) ≡ n
bits_back zero h = refl
bits_back (suc zero) h = refl
bits_back (suc (suc zero)) h = refl
bits_back (suc (suc (suc zero))) h = refl
bits_back (suc (suc (suc (suc n)))) h = absurd (omega arith)

-- a number comes back
number_back : (xs : List ℕ) (at : ℕ) → AreBytes xs → at + 8 ≤ length xs → to_le_bytes w64 (from_le_bytes w64 (take 8 (drop at xs))) ≡ take 8 (drop at xs)
number_back xs at fit inside =
    le_bytes_8 (take 8 (drop at xs)) _ (omega (arith, length-take 8 (drop at xs), length-drop at xs)) (AreBytes-take 8 (drop at xs) (AreBytes-drop at xs fit)) refl

-- the four numbers are the last 32 of 65 bytes
four_parts : (xs : List ℕ) → length xs ≡ 65
    → take 8 (drop 33 xs) ++ (take 8 (drop 41 xs) ++ (take 8 (drop 49 xs) ++ take 8 (drop 57 xs))) ≡ drop 33 xs
four_parts xs long =
    let last : take 8 (drop 57 xs) ≡ drop 57 xs = take_all 8 (drop 57 xs) (omega (arith, length-drop 57 xs)) in
    let from_49 : take 8 (drop 49 xs) ++ drop 57 xs ≡ drop 49 xs = part_then_rest 49 8 xs in
    let from_41 : take 8 (drop 41 xs) ++ drop 49 xs ≡ drop 41 xs = part_then_rest 41 8 xs in
    let from_33 : take 8 (drop 33 xs) ++ drop 41 xs ≡ drop 33 xs = part_then_rest 33 8 xs in
    ap (λ (t : List ℕ). take 8 (drop 33 xs) ++ (take 8 (drop 41 xs) ++ (take 8 (drop 49 xs) ++ t))) last
    ∙ ap (λ (t : List ℕ). take 8 (drop 33 xs) ++ (take 8 (drop 41 xs) ++ t)) from_49
    ∙ ap (λ (t : List ℕ). take 8 (drop 33 xs) ++ t) from_41
    ∙ from_33

four_same : (u v a b u' v' a' b' : List ℕ) → u ≡ u' → v ≡ v' → a ≡ a' → b ≡ b' → u ++ (v ++ (a ++ b)) ≡ u' ++ (v' ++ (a' ++ b'))
four_same u v a b u' v' a' b' e f g h = cc

-- the block of what 65 bytes say is these bytes
pub block-word_of : (xs : List ℕ) → length xs ≡ 65 → AreBytes xs → has_bits xs ≡ true → block (word_of xs) ≡ xs
unfolding block word_of has_bits
block-word_of xs long fit passed =
    let small : get_or xs 32 0 ≤ 3 = grind (arith, nat_tests) in
    let middle : get_or xs 32 0 ∷ drop 33 xs ≡ drop 32 xs = sym (drop-cons xs 32 0 (omega arith)) in
    let numbers : numbers_of (word_of xs) ≡ drop 33 xs =
    four_same _ _ _ _ _ _ _ _ (number_back xs 33 fit (omega arith)) (number_back xs 41 fit (omega arith))
    (number_back xs 49 fit (omega arith)) (number_back xs 57 fit (omega arith))
    ∙ four_parts xs long in
    ap (λ (t : List ℕ). take 32 xs ++ t) (ap₂ (λ (n : ℕ) (t : List ℕ). n ∷ t) (bits_back (get_or xs 32 0) small) numbers ∙ middle)
    ∙ take-append-drop 32 xs

-- what follows a seed
after_seed : (seed rest : List ℕ) (n : ℕ) → length seed ≡ 32 → drop (32 + n) (seed ++ rest) ≡ drop n rest
after_seed seed rest n long = subst (λ m. drop (m + n) (seed ++ rest) ≡ drop n rest) long (drop-append-add seed rest n)

-- a number below the modulus comes back
number_again : (n : ℕ) → n < modulus → from_le_bytes w64 (to_le_bytes w64 n) ≡ n
number_again n small = from_le_bytes-to_le_bytes_8 n (omega arith)

pub length-block : (word : LevelWord) → IsWord word → length (block word) ≡ 65
unfolding block
length-block word fits = rw length-append (omega (arith, fits.seed))

left_read : (left right : Bool) → ((bit_number left + 2 * bit_number right) % 2 == 1) ≡ left
left_read true true = refl
left_read true false = refl
left_read false true = refl
left_read false false = refl

right_read : (left right : Bool) → ((bit_number left + 2 * bit_number right) / 2 % 2 == 1) ≡ right
right_read true true = refl
right_read true false = refl
right_read false true = refl
right_read false false = refl

bits_small : (left right : Bool) → leb (bit_number left + 2 * bit_number right) 3 ≡ true
bits_small true true = refl
bits_small true false = refl
bits_small false true = refl
bits_small false false = refl

all_small : (u v a b u' v' a' b' : ℕ) → u ≡ u' → v ≡ v' → a ≡ a' → b ≡ b' → u' < modulus → v' < modulus → a' < modulus → b' < modulus
    → (ltb u modulus && ltb v modulus && ltb a modulus && ltb b modulus) ≡ true
all_small u v a b u' v' a' b' e f g h i j k l = grind (arith, nat_tests)

small_all : (u v a b : ℕ) → (ltb u modulus && ltb v modulus && ltb a modulus && ltb b modulus) ≡ true
    → (u < modulus) × (v < modulus) × (a < modulus) × (b < modulus)
small_all u v a b good = grind (arith, nat_tests)

same_word : (seed : List ℕ) (left right : Bool) (u v a b : ℕ) (word : LevelWord) → seed ≡ word.seed → left ≡ word.left → right ≡ word.right
    → u ≡ word.u → v ≡ word.v → a ≡ word.a → b ≡ word.b → record { seed = seed; left = left; right = right; u = u; v = v; a = a; b = b } ≡ word
same_word seed left right u v a b word e f g h i j k = grind (arith)

seed_at : (word : LevelWord) → IsWord word → take 32 (block word) ≡ word.seed
unfolding block
seed_at word fits = take_at word.seed (bits_of word ∷ numbers_of word) 32 fits.seed

-- where each number of a block stands
u_at : (word : LevelWord) → IsWord word → number_at (block word) 33 ≡ word.u
unfolding block
u_at word fits = ap (λ (t : List ℕ). from_le_bytes w64 (take 8 t)) (after_seed word.seed (bits_of word ∷ numbers_of word) 1 fits.seed) ∙ number_again word.u fits.u

v_at : (word : LevelWord) → IsWord word → number_at (block word) 41 ≡ word.v
unfolding block
v_at word fits = ap (λ (t : List ℕ). from_le_bytes w64 (take 8 t)) (after_seed word.seed (bits_of word ∷ numbers_of word) 9 fits.seed) ∙ number_again word.v fits.v

a_at : (word : LevelWord) → IsWord word → number_at (block word) 49 ≡ word.a
unfolding block
a_at word fits = ap (λ (t : List ℕ). from_le_bytes w64 (take 8 t)) (after_seed word.seed (bits_of word ∷ numbers_of word) 17 fits.seed) ∙ number_again word.a fits.a

b_at : (word : LevelWord) → IsWord word → number_at (block word) 57 ≡ word.b
unfolding block
b_at word fits = ap (λ (t : List ℕ). from_le_bytes w64 (take 8 t)) (after_seed word.seed (bits_of word ∷ numbers_of word) 25 fits.seed) ∙ number_again word.b fits.b

bits_at : (word : LevelWord) → IsWord word → get_or (block word) 32 0 ≡ bits_of word
unfolding block
bits_at word fits = get_or_at word.seed (bits_of word) (numbers_of word) 0 32 fits.seed

-- a block says the word that it is the block of
pub word_of-block : (word : LevelWord) → IsWord word → word_of (block word) ≡ word
unfolding word_of
word_of-block word fits =
    let seed : take 32 (block word) ≡ word.seed = seed_at word fits in
    let left : (get_or (block word) 32 0 % 2 == 1) ≡ word.left = ap (λ n. n % 2 == 1) (bits_at word fits) ∙ left_read word.left word.right in
    let right : (get_or (block word) 32 0 / 2 % 2 == 1) ≡ word.right = ap (λ n. n / 2 % 2 == 1) (bits_at word fits) ∙ right_read word.left word.right in
    same_word _ _ _ _ _ _ _ word seed left right (u_at word fits) (v_at word fits) (a_at word fits) (b_at word fits)

pub has_bits-block : (word : LevelWord) → IsWord word → has_bits (block word) ≡ true
unfolding has_bits
has_bits-block word fits = ap (λ n. leb n 3) (bits_at word fits) ∙ bits_small word.left word.right

pub has_elements-block : (word : LevelWord) → IsWord word → has_elements (block word) ≡ true
unfolding has_elements
has_elements-block word fits =
    all_small _ _ _ _ word.u word.v word.a word.b (u_at word fits) (v_at word fits) (a_at word fits) (b_at word fits) fits.u fits.v fits.a fits.b

-- what 65 bytes with good numbers say is a word
pub IsWord-word_of : (xs : List ℕ) → length xs ≡ 65 → has_elements xs ≡ true → IsWord (word_of xs)
unfolding word_of has_elements
IsWord-word_of xs long good =
    let below = small_all _ _ _ _ good in
    record { seed = omega (arith, length-take 32 xs); u = below.0; v = below.1; a = below.2; b = below.3 }
