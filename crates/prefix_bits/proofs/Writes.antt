-- What a write into one word of a prefix does to the bits.
use Rattle.std.proofs.Common.{◌≡◌, ◌≢◌, ℕ, zero, suc, ◌+◌, ◌-◌, ◌*◌, ◌/◌, ◌%◌, ◌^◌, ◌<◌, ◌≤◌, false, List, ◌++◌, length, get_or, set, take, inl, inr, ◌==◌, refl, sym, ap, ◌∙◌, arith, lit<, length-append, length-set, bit_and, bit_or}
use Rattle.std.specs.Int.{bit_at, bit_not, w64}
use Rattle.std.proofs.lemmas.List.{get_or-set_same, get_or-set_other, get_or_append_left, get_or-append_right, length-take-le, get_or-take}
use Rattle.std.proofs.lemmas.Bool.{cases_lt, cases_eq}
use Rattle.std.proofs.lemmas.Nat.{or_lt, and_le_l, shl_below, pow_pos}
use Rattle.std.proofs.Math.Nat.{mod-eq_of_lt, pow-le-pow_right}
use Rattle.std.proofs.lemmas.Nat.Bits.{bit_at_or, bit_at-lt, bit_at_above, bit_at_cat_low, bit_at_cat_high, bit_at-zero, bit_at_clear_same, bit_at_clear_other}
use Rattle.prefix_bits.specs.Bits.{bit, low_bits}
use Rattle.prefix_bits.specs.Stored.{stored_bit, stored_bits, IsStored}
use Rattle.prefix_bits.specs.StoredLaws.{length-stored_bits, get_or-stored_bits}
use Rattle.prefix_bits.proofs.StoredLists.{same_stored}

-- ---- one bit of a word

same_bit : (m n i k : ℕ) → bit_at m i ≡ bit_at n k → bit m i ≡ bit n k
same_bit m n i k e = ap (λ b. b == 1) e

bit_or_zero : (n m k : ℕ) → bit_at m k ≡ 0 → bit (bit_or n m) k ≡ bit n k
bit_or_zero n m k z = same_bit (bit_or n m) n k k (omega (arith, bit_at_or n m k))

off : (n k : ℕ) → bit n k ≡ false → bit_at n k ≡ 0
off n k z = let small = bit_at-lt n k in grind arith

bit_or_onto_zero : (n m k : ℕ) → bit n k ≡ false → bit (bit_or n m) k ≡ bit m k
bit_or_onto_zero n m k z = same_bit (bit_or n m) m k k (omega (arith, bit_at_or n m k, off n k z))

-- ---- one word of the words

stored_bit-set_same : (words : List ℕ) (i word place : ℕ) → i < length words → place / 64 ≡ i
    → stored_bit (set words i word) place ≡ bit word (63 - place % 64)
unfolding stored_bit
stored_bit-set_same words i word place h at =
    rw at (ap (λ n. bit n (63 - place % 64)) (get_or-set_same words i word 0 h))

stored_bit-set_other : (words : List ℕ) (i word place : ℕ) → place / 64 ≢ i
    → stored_bit (set words i word) place ≡ stored_bit words place
unfolding stored_bit
stored_bit-set_other words i word place apart =
    ap (λ n. bit n (63 - place % 64)) (get_or-set_other words i (place / 64) word 0 apart)

stored_bit_in : (words : List ℕ) (i place : ℕ) → place / 64 ≡ i → stored_bit words place ≡ bit (get_or words i 0) (63 - place % 64)
unfolding stored_bit
stored_bit_in words i place at = ap (λ j. bit (get_or words j 0) (63 - place % 64)) at

fits-set : (words : List ℕ) (i word : ℕ) → i < length words → word < 2 ^ 64 → ((j : ℕ) → get_or words j 0 < 2 ^ 64)
    → (j : ℕ) → get_or (set words i word) j 0 < 2 ^ 64
fits-set words i word h small fits j =
    elim (cases_eq j i) [
      | inl e ↦ rw (e, get_or-set_same words i word 0 h) small
      | inr apart ↦ rw (get_or-set_other words i j word 0 apart) (fits j)
    ]

-- ---- bits after the last

pub length-low_bits : (count n : ℕ) → length (low_bits count n) ≡ count
length-low_bits zero n = refl
length-low_bits (suc count) n = ap suc (length-low_bits count n)

pub get_or-low_bits : (count n place : ℕ) → place < count → get_or (low_bits count n) place false ≡ bit n (count - 1 - place)
get_or-low_bits zero n place h = absurd (omega arith)
get_or-low_bits (suc count) n zero h = ap (bit n) (omega arith)
get_or-low_bits (suc count) n (suc place) h = get_or-low_bits count n place (omega arith) ∙ ap (bit n) (omega arith)

module _ (count most : ℕ) (words : List ℕ) (len : ℕ) (s : IsStored count most words len) (free : len < most) (more bits : ℕ) (in_word : len % 64 + more ≤ 64) (small : bits < 2 ^ more) where
  abbrev shift : ℕ
  shift = 64 - len % 64 - more

  abbrev word : ℕ
  word = bit_or (get_or words (len / 64) 0) (bits * 2 ^ shift)

  abbrev written : List ℕ
  written = set words (len / 64) word

  there : len / 64 < length words
  there = let e = s.count_is in let r : most ≡ 64 * count = s.room in omega arith

  before : (place : ℕ) → place < len → stored_bit written place ≡ stored_bit words place
  before place h =
      elim (cases_eq (place / 64) (len / 64)) [
        | inl at ↦
            let below : bits * 2 ^ shift < 2 ^ (more + shift) = shl_below bits more shift small in
            let high : more + shift ≤ 63 - place % 64 = omega arith in
            stored_bit-set_same words (len / 64) word place there at
            ∙ bit_or_zero (get_or words (len / 64) 0) (bits * 2 ^ shift) (63 - place % 64) (bit_at_above (bits * 2 ^ shift) (more + shift) (63 - place % 64) below high)
            ∙ sym (stored_bit_in words (len / 64) place at)
        | inr apart ↦ stored_bit-set_other words (len / 64) word place apart
      ]

  within : (place : ℕ) → len ≤ place → place < len + more → stored_bit written place ≡ bit bits (more - 1 - (place - len))
  within place from to =
      let at : place / 64 ≡ len / 64 = omega arith in
      let inside : place < most = let r : most ≡ 64 * count = s.room in omega arith in
      let empty : bit (get_or words (len / 64) 0) (63 - place % 64) ≡ false = sym (stored_bit_in words (len / 64) place at) ∙ s.unused place from inside in
      let from_shift : 63 - place % 64 - shift ≡ more - 1 - (place - len) = omega arith in
      let plain : bits * 2 ^ shift ≡ bits * 2 ^ shift + 0 = omega arith in
      stored_bit-set_same words (len / 64) word place there at
      ∙ bit_or_onto_zero (get_or words (len / 64) 0) (bits * 2 ^ shift) (63 - place % 64) empty
      ∙ ap (λ n. bit n (63 - place % 64)) plain
      ∙ same_bit (bits * 2 ^ shift + 0) bits (63 - place % 64) (63 - place % 64 - shift) (bit_at_cat_high bits shift 0 (63 - place % 64) (pow_pos shift) (omega arith))
      ∙ ap (bit bits) from_shift

  after : (place : ℕ) → len + more ≤ place → place < most → stored_bit written place ≡ false
  after place from inside =
      let was : stored_bit words place ≡ false = s.unused place (omega arith) inside in
      elim (cases_eq (place / 64) (len / 64)) [
        | inl at ↦
            let plain : bits * 2 ^ shift ≡ bits * 2 ^ shift + 0 = omega arith in
            let low : 63 - place % 64 < shift = omega arith in
            let none : bit_at (bits * 2 ^ shift) (63 - place % 64) ≡ 0 =
            ap (λ n. bit_at n (63 - place % 64)) plain ∙ bit_at_cat_low bits shift 0 (63 - place % 64) low ∙ bit_at-zero (63 - place % 64) in
            stored_bit-set_same words (len / 64) word place there at
            ∙ bit_or_zero (get_or words (len / 64) 0) (bits * 2 ^ shift) (63 - place % 64) none
            ∙ sym (stored_bit_in words (len / 64) place at) ∙ was
        | inr apart ↦ stored_bit-set_other words (len / 64) word place apart ∙ was
      ]

  below : bits * 2 ^ shift < 2 ^ 64
  below =
      let two_counts : 0 < 2 = lit< tt in
      let up : more + shift ≤ 64 = omega arith in
      let room : 2 ^ (more + shift) ≤ 2 ^ 64 = pow-le-pow_right {n = 2} two_counts {i = more + shift} {j = 64} up in
      let own = shl_below bits more shift small in
      omega arith

  word_fits : word < 2 ^ 64
  word_fits = or_lt 64 (get_or words (len / 64) 0) (bits * 2 ^ shift) (s.fits (len / 64)) below

  IsStored-written : IsStored count most written (len + more)
  IsStored-written = record {
    within = let r : most ≡ 64 * count = s.room in omega arith;
    count_is = length-set words (len / 64) word ∙ s.count_is;
    room = s.room;
    fits = fits-set words (len / 64) word there word_fits s.fits;
    unused = after;
  }

  stored_bits-written : stored_bits written (len + more) ≡ stored_bits words len ++ low_bits more bits
  stored_bits-written =
      sym (same_stored written (len + more) (stored_bits words len ++ low_bits more bits)
      (length-append (stored_bits words len) (low_bits more bits) ∙ ap (λ n. n + length (low_bits more bits)) (length-stored_bits words len) ∙ ap (λ n. len + n) (length-low_bits more bits))
      (λ place h. elim (cases_lt place len) [
        | inl l ↦
            get_or_append_left (stored_bits words len) (low_bits more bits) false place (rw length-stored_bits l)
            ∙ get_or-stored_bits words len place false l ∙ sym (before place l)
        | inr l ↦
            get_or-append_right (stored_bits words len) (low_bits more bits) len place false (length-stored_bits words len) l
            ∙ get_or-low_bits more bits (place - len) (omega arith) ∙ sym (within place l h)
      ]))

  -- as the code shifts them
  abbrev followed : List ℕ
  followed = set words (len / 64) (bit_or (get_or words (len / 64) 0) (bits * 2 ^ shift % 2 ^ 64))

  followed_is : followed ≡ written
  followed_is = ap (λ n. set words (len / 64) (bit_or (get_or words (len / 64) 0) n)) (mod-eq_of_lt below)

  pub IsStored-followed : IsStored count most followed (len + more)
  IsStored-followed = rw followed_is IsStored-written

  pub stored_bits-followed : stored_bits followed (len + more) ≡ stored_bits words len ++ low_bits more bits
  stored_bits-followed = ap (λ ws. stored_bits ws (len + more)) followed_is ∙ stored_bits-written

-- ---- the last bit is taken away

module _ (count most : ℕ) (words : List ℕ) (len : ℕ) (s : IsStored count most words (suc len)) where
  abbrev weight : ℕ
  weight = 63 - len % 64

  weight_below : weight < 64
  weight_below = omega arith

  abbrev cleared : ℕ
  cleared = bit_and (get_or words (len / 64) 0) (bit_not w64 (1 * 2 ^ weight % 2 ^ 64))

  abbrev shortened : List ℕ
  shortened = set words (len / 64) cleared

  here : len / 64 < length words
  here = let e = s.count_is in let r : most ≡ 64 * count = s.room in let h = s.within in omega arith

  others : (place : ℕ) → place ≢ len → stored_bit shortened place ≡ stored_bit words place
  others place other =
      elim (cases_eq (place / 64) (len / 64)) [
        | inl at ↦
            stored_bit-set_same words (len / 64) cleared place here at
            ∙ same_bit cleared (get_or words (len / 64) 0) (63 - place % 64) (63 - place % 64)
            (bit_at_clear_other w64 (get_or words (len / 64) 0) weight weight_below (63 - place % 64) (omega arith) (omega arith))
            ∙ sym (stored_bit_in words (len / 64) place at)
        | inr apart ↦ stored_bit-set_other words (len / 64) cleared place apart
      ]

  last : stored_bit shortened len ≡ false
  last =
      stored_bit-set_same words (len / 64) cleared len here refl
      ∙ ap (λ b. b == 1) (bit_at_clear_same w64 (get_or words (len / 64) 0) weight weight_below)

  pub IsStored-shortened : IsStored count most shortened len
  IsStored-shortened = record {
    within = let h = s.within in omega arith;
    count_is = length-set words (len / 64) cleared ∙ s.count_is;
    room = s.room;
    fits = fits-set words (len / 64) cleared here (let small = s.fits (len / 64) in omega (arith, and_le_l (get_or words (len / 64) 0) (bit_not w64 (1 * 2 ^ weight % 2 ^ 64)))) s.fits;
    unused = λ place from inside. elim (cases_eq place len) [
      | inl e ↦ ap (stored_bit shortened) e ∙ last
      | inr other ↦ others place other ∙ s.unused place (omega arith) inside
    ];
  }

  pub stored_bits-shortened : stored_bits shortened len ≡ take len (stored_bits words (suc len))
  stored_bits-shortened =
      sym (same_stored shortened len (take len (stored_bits words (suc len)))
      (length-take-le len (stored_bits words (suc len)) (rw length-stored_bits (omega arith)))
      (λ place h. get_or-take len (stored_bits words (suc len)) place false h ∙ get_or-stored_bits words (suc len) place false (omega arith) ∙ sym (others place (omega arith))))
