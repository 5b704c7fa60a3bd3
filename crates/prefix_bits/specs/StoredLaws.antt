-- The words of a prefix and the list of its bits: each gives the other back.
-- A model cites what stands in specs alone, so these are proved here, by named lemmas and no search.
use Rattle.std.specs.Prelude.{◌≡◌, ℕ, zero, suc, ◌+◌, ◌-◌, ◌*◌, ◌/◌, ◌%◌, ◌^◌, ◌<◌, ◌≤◌, ◌==◌, Bool, false, if◌then◌else◌, List, length, slice_index, slice_index_or}
use Rattle.std.specs.Int.{bit_at}
use Rattle.std.proofs.Common.{inl, inr, refl, sym, ap, ap₂, ◌∙◌, subst, lit<, lit≤}
use Rattle.std.proofs.lemmas.List.{get_or_past}
use Rattle.std.proofs.lemmas.List.FromFn.{length-map-range_with_len, get_or-map-range_with_len, fill_by_all}
use Rattle.std.proofs.lemmas.Nat.{mod-pow-add, div-mul-add, mod-mul-add, mul-add-lt}
use Rattle.std.proofs.lemmas.Bool.{cases_lt}
use Rattle.std.proofs.Math.Nat.{mod-eq_of_lt, mod-one, zero-mul, one-mul, mul_comm, sub-le, le-pred_of_lt, le-suc, le_trans, lt_trans, lt_of_le_of_lt, lt-suc_self, not-le_of_lt, zero-add}
use Rattle.std.proofs.Math.Numerals.{one-add}
use Rattle.std.proofs.Math.Arith.{sub-sub_self}
use Rattle.std.proofs.lemmas.Nat.Bits.{bit_at-lt}
use Rattle.prefix_bits.specs.Bits.{bit}
use Rattle.prefix_bits.specs.Stored.{stored_bit, stored_bits, IsStored, number_of, word_of, words_of}

-- ---- the bits that are read

pub length-stored_bits : (words : List ℕ) (len : ℕ) → length (stored_bits words len) ≡ len
unfolding stored_bits
length-stored_bits words len = length-map-range_with_len (stored_bit words) 0 len

pub get_or-stored_bits : (words : List ℕ) (len place : ℕ) (d : Bool) → place < len → slice_index_or (stored_bits words len) place d ≡ stored_bit words place
unfolding stored_bits
get_or-stored_bits words len place d h = get_or-map-range_with_len (stored_bit words) 0 len place place d h (zero-add place)

-- ---- a number by its bits

two_or_more : (b : ℕ) → 2 ≤ suc (suc b)
two_or_more zero = lit≤ tt
two_or_more (suc b) = le_trans (two_or_more b) (le-suc (suc (suc b)))

if_bit : (b p : ℕ) → b < 2 → (if b == 1 then p else 0) ≡ b * p
if_bit zero p h = sym (zero-mul p)
if_bit (suc zero) p h = sym (one-mul p)
if_bit (suc (suc b)) p h = absurd (not-le_of_lt h (two_or_more b))

-- a number is made of its lowest bits
number_of-bits : (k n : ℕ) → number_of k (bit n) ≡ n % 2 ^ k
unfolding number_of
number_of-bits zero n = sym (mod-one n)
number_of-bits (suc k) n =
    ap₂ (λ a b. a + b) (if_bit (bit_at n k) (2 ^ k) (bit_at-lt n k)) (number_of-bits k n)
    ∙ sym (mod-pow-add n 1 k) ∙ ap (λ j. n % 2 ^ j) (one-add k)

number_of-same : (k : ℕ) (f g : ℕ → Bool) → ((weight : ℕ) → weight < k → f weight ≡ g weight) → number_of k f ≡ number_of k g
unfolding number_of
number_of-same zero f g h = refl
number_of-same (suc k) f g h =
    ap₂ (λ b rest. (if b then 2 ^ k else 0) + rest) (h k (lt-suc_self k)) (number_of-same k f g (λ weight l. h weight (lt_trans l (lt-suc_self k))))

-- ---- the words that the bits give back

-- a place that is read off a list of bits followed by zeros
bit_of_stored : (count most : ℕ) (words : List ℕ) (len place : ℕ) → IsStored count most words len → place < most
    → slice_index_or (stored_bits words len) place false ≡ stored_bit words place
bit_of_stored count most words len place s h =
    elim (cases_lt place len) [
      | inl l ↦ get_or-stored_bits words len place false l
      | inr l ↦ get_or_past (stored_bits words len) place false (subst (λ n. n ≤ place) (sym (length-stored_bits words len)) l) ∙ sym (s.unused place l h)
    ]

-- the place of the bit of a weight within its word
rest : (weight : ℕ) → 63 - weight < 64
rest weight = lt_of_le_of_lt (sub-le 63 weight) (lit< tt)

at_place : (i weight : ℕ) → 64 * i + (63 - weight) ≡ i * 64 + (63 - weight)
at_place i weight = ap (λ n. n + (63 - weight)) (mul_comm 64 i)

stored_bit_at : (words : List ℕ) (i weight : ℕ) → weight < 64 → stored_bit words (64 * i + (63 - weight)) ≡ bit (slice_index words i) weight
unfolding stored_bit
stored_bit_at words i weight h =
    ap (λ place. bit (slice_index words (place / 64)) (63 - place % 64)) (at_place i weight)
    ∙ ap (λ w. bit (slice_index words w) (63 - (i * 64 + (63 - weight)) % 64)) (div-mul-add i 64 (63 - weight) (rest weight))
    ∙ ap (λ r. bit (slice_index words i) (63 - r)) (mod-mul-add i 64 (63 - weight) (rest weight))
    ∙ ap (bit (slice_index words i)) (sub-sub_self (le-pred_of_lt h))

word_of-stored : (count most : ℕ) (words : List ℕ) (len i : ℕ) → IsStored count most words len → i < count
    → word_of (stored_bits words len) i ≡ slice_index words i
unfolding word_of
word_of-stored count most words len i s h =
    number_of-same 64 (λ weight. slice_index_or (stored_bits words len) (64 * i + (63 - weight)) false) (bit (slice_index words i))
    (λ weight l. bit_of_stored count most words len (64 * i + (63 - weight)) s (within weight) ∙ stored_bit_at words i weight l)
    ∙ number_of-bits 64 (slice_index words i)
    ∙ mod-eq_of_lt (s.fits i)
  where
    within : (weight : ℕ) → 64 * i + (63 - weight) < most
    within weight =
        subst (λ n. 64 * i + (63 - weight) < n) (sym s.room)
        (subst (λ n. n < 64 * count) (sym (at_place i weight)) (mul-add-lt i 64 (63 - weight) count h (rest weight)))

pub words_of-stored : (count most : ℕ) (words : List ℕ) (len : ℕ) → IsStored count most words len → words_of count (stored_bits words len) ≡ words
unfolding words_of
words_of-stored count most words len s =
    sym (fill_by_all (word_of (stored_bits words len)) words count 0 s.count_is (λ i h. sym (word_of-stored count most words len i s h)))

pub stored_inverse : {X : Type 0} (count most : ℕ) (words : List ℕ) (len : ℕ) → IsStored count most words len → (make : List ℕ → ℕ → X)
    → make (words_of count (stored_bits words len)) (length (stored_bits words len)) ≡ make words len
stored_inverse count most words len s make =
    ap (λ w. make w (length (stored_bits words len))) (words_of-stored count most words len s) ∙ ap (make words) (length-stored_bits words len)
