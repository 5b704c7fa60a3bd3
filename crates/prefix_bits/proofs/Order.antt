-- The words of two prefixes, and then their lengths, compare as the lists of bits do.
use Rattle.std.proofs.Common.{◌≡◌, ℕ, zero, suc, ◌+◌, ◌-◌, ◌*◌, ◌/◌, ◌%◌, ◌^◌, ◌<◌, ◌≤◌, ◌==◌, Bool, ◌⊎◌, zero-add, true, false, nat_eq, List, [], ◌∷◌, ◌++◌, length, get_or, replicate, inl, inr, refl, sym, ap, ◌∙◌, arith, length-append}
use Rattle.std.specs.List.{flat_map}
use Rattle.std.specs.Int.{bit_at}
use Rattle.std.specs.declared.cmp.Ordering.{Ordering}
use Rattle.std.specs.declared.cmp.Ordering.TheVariants.{Less, Equal, Greater}
use Rattle.std.specs.Ordering.{nat_cmp, bool_cmp, ordering_then}
use Rattle.std.specs.Cmp.Lexicographic.{slice_cmp, pointwise, pointwise_decides}
use Rattle.std.specs.Bool.{Decides}
use Rattle.std.specs.Cmp.{unsigned_Decides}
use Rattle.std.proofs.lemmas.Cmp.{tied_itself}
use Rattle.std.proofs.lemmas.Bool.{cases_lt}
use Rattle.std.proofs.lemmas.Bool.Decides.{nat_tests, same_from_decides}
use Rattle.std.proofs.lemmas.List.{get_or_append_left, get_or-append_right, get_or-replicate, length-replicate, ext_get_or}
use Rattle.std.proofs.lemmas.Nat.{mod-pow-add, mod_below, pow_pos}
use Rattle.std.proofs.lemmas.Nat.Bits.{bit_at-lt}
use Rattle.std.proofs.Math.Nat.{mod-eq_of_lt}
use Rattle.prefix_bits.specs.Bits.{bit, low_bits, bits_cmp, bits_eq}
use Rattle.prefix_bits.specs.Orders.{bits_total, bits_decide}
use Rattle.prefix_bits.specs.Stored.{stored_bit, stored_bits, IsStored, words_of}
use Rattle.prefix_bits.specs.StoredLaws.{length-stored_bits, get_or-stored_bits, words_of-stored}
use Rattle.prefix_bits.proofs.Writes.{length-low_bits, get_or-low_bits}

-- ---- one word

two : (a : ℕ) → a < 2 → (a ≡ 0) ⊎ (a ≡ 1)
two a h = grind arith

top_bit_decides : (a b r s p : ℕ) → a < 2 → b < 2 → r < p → s < p
    → ordering_then (bool_cmp (a == 1) (b == 1)) (nat_cmp r s) ≡ nat_cmp (a * p + r) (b * p + s)
top_bit_decides a b r s p ha hb hr hs =
    elim (two a ha) [
      | inl x ↦ elim (two b hb) [ inl y ↦ rw (x, y) (grind (arith, nat_tests)) | inr y ↦ rw (x, y) (grind (arith, nat_tests)) ]
      | inr x ↦ elim (two b hb) [ inl y ↦ rw (x, y) (grind (arith, nat_tests)) | inr y ↦ rw (x, y) (grind (arith, nat_tests)) ]
    ]

split : (k n : ℕ) → n % 2 ^ suc k ≡ bit_at n k * 2 ^ k + n % 2 ^ k
split k n = ap (λ j. n % 2 ^ j) (omega arith) ∙ mod-pow-add n 1 k

low_bits_compare : (k m n : ℕ) → bits_cmp (low_bits k m) (low_bits k n) ≡ nat_cmp (m % 2 ^ k) (n % 2 ^ k)
low_bits_compare zero m n = let a : m % 1 ≡ 0 = omega arith in let b : n % 1 ≡ 0 = omega arith in rw (a, b)
low_bits_compare (suc k) m n =
    rw (split k m, split k n, low_bits_compare k m n)
    (top_bit_decides (bit_at m k) (bit_at n k) (m % 2 ^ k) (n % 2 ^ k) (2 ^ k) (bit_at-lt m k) (bit_at-lt n k)
    (mod_below m (2 ^ k) (pow_pos k)) (mod_below n (2 ^ k) (pow_pos k)))

word_compare : (m n : ℕ) → m < 2 ^ 64 → n < 2 ^ 64 → bits_cmp (low_bits 64 m) (low_bits 64 n) ≡ nat_cmp m n
word_compare m n hm hn =
    low_bits_compare 64 m n ∙ ap (λ a. nat_cmp a (n % 2 ^ 64)) (mod-eq_of_lt hm) ∙ ap (nat_cmp m) (mod-eq_of_lt hn)

-- ---- all words

then_assoc : (a b c : Ordering) → ordering_then (ordering_then a b) c ≡ ordering_then a (ordering_then b c)
then_assoc Less b c = refl
then_assoc Equal b c = refl
then_assoc Greater b c = refl

joined_compare : (xs ys us vs : List Bool) → length xs ≡ length ys → bits_cmp (xs ++ us) (ys ++ vs) ≡ ordering_then (bits_cmp xs ys) (bits_cmp us vs)
joined_compare [] [] us vs e = refl
joined_compare [] (y ∷ ys) us vs e = absurd (omega arith)
joined_compare (x ∷ xs) [] us vs e = absurd (omega arith)
joined_compare (x ∷ xs) (y ∷ ys) us vs e =
    ap (ordering_then (bool_cmp x y)) (joined_compare xs ys us vs (omega arith))
    ∙ sym (then_assoc (bool_cmp x y) (bits_cmp xs ys) (bits_cmp us vs))

abbrev all_bits : List ℕ → List Bool
all_bits words = flat_map (low_bits 64) words

words_compare : (ws vs : List ℕ) → length ws ≡ length vs → ((i : ℕ) → get_or ws i 0 < 2 ^ 64) → ((i : ℕ) → get_or vs i 0 < 2 ^ 64)
    → slice_cmp nat_cmp ws vs ≡ bits_cmp (all_bits ws) (all_bits vs)
words_compare [] [] e h k = refl
words_compare [] (v ∷ vs) e h k = absurd (omega arith)
words_compare (w ∷ ws) [] e h k = absurd (omega arith)
words_compare (w ∷ ws) (v ∷ vs) e h k =
    let next = words_compare ws vs (omega arith) (λ i. h (suc i)) (λ i. k (suc i)) in
    ap (ordering_then (nat_cmp w v)) next
    ∙ ap (λ o. ordering_then o (bits_cmp (all_bits ws) (all_bits vs))) (sym (word_compare w v (h 0) (k 0)))
    ∙ sym (joined_compare (low_bits 64 w) (low_bits 64 v) (all_bits ws) (all_bits vs) (length-low_bits 64 w ∙ sym (length-low_bits 64 v)))

length-all_bits : (words : List ℕ) → length (all_bits words) ≡ 64 * length words
length-all_bits [] = refl
length-all_bits (w ∷ ws) = omega (arith, length-append (low_bits 64 w) (all_bits ws), length-low_bits 64 w, length-all_bits ws)

get_or-all_bits : (words : List ℕ) (place : ℕ) → place < 64 * length words → get_or (all_bits words) place false ≡ stored_bit words place
unfolding stored_bit
get_or-all_bits [] place h = absurd (omega arith)
get_or-all_bits (w ∷ ws) place h =
    elim (cases_lt place 64) [
      | inl l ↦
          let at : place / 64 ≡ 0 = omega arith in
          let weight : 64 - 1 - place ≡ 63 - place % 64 = omega arith in
          get_or_append_left (low_bits 64 w) (all_bits ws) false place (rw length-low_bits l)
          ∙ get_or-low_bits 64 w place l ∙ ap (bit w) weight ∙ ap (λ i. bit (get_or (w ∷ ws) i 0) (63 - place % 64)) (sym at)
      | inr l ↦
          let at : place / 64 ≡ suc ((place - 64) / 64) = omega arith in
          let weight : (place - 64) % 64 ≡ place % 64 = omega arith in
          get_or-append_right (low_bits 64 w) (all_bits ws) 64 place false (length-low_bits 64 w) l
          ∙ get_or-all_bits ws (place - 64) (omega arith)
          ∙ ap (λ r. bit (get_or ws ((place - 64) / 64) 0) (63 - r)) weight
          ∙ ap (λ i. bit (get_or (w ∷ ws) i 0) (63 - place % 64)) (sym at)
    ]

-- ---- the zeros past the end

all_bits_are : (count most : ℕ) (words : List ℕ) (len : ℕ) → IsStored count most words len
    → all_bits words ≡ stored_bits words len ++ replicate (most - len) false
all_bits_are count most words len s =
    let whole : 64 * length words ≡ most = ap (λ n. 64 * n) s.count_is ∙ sym s.room in
    let inside : len ≤ most = s.within in
    ext_get_or false (all_bits words) (stored_bits words len ++ replicate (most - len) false)
    (length-all_bits words
    ∙ omega (arith, length-append (stored_bits words len) (replicate (most - len) false), length-stored_bits words len, length-replicate {A = Bool} (most - len) false))
    (λ place h.
    let at : place < 64 * length words = rw length-all_bits at h in
    get_or-all_bits words place at ∙ elim (cases_lt place len) [
      | inl l ↦
          sym (get_or_append_left (stored_bits words len) (replicate (most - len) false) false place (rw length-stored_bits l)
          ∙ get_or-stored_bits words len place false l)
      | inr l ↦
          s.unused place l (omega arith)
          ∙ sym (get_or-append_right (stored_bits words len) (replicate (most - len) false) len place false (length-stored_bits words len) l
          ∙ get_or-replicate (most - len) (place - len) false false (omega arith))
    ])

zeros_before : (q : List Bool) (b : ℕ) → ordering_then (bits_cmp (replicate (length q + b) false) (q ++ replicate b false)) Less ≡ Less
zeros_before [] b = rw (zero-add, tied_itself bits_total (replicate b false))
zeros_before (false ∷ q) b = let e : suc (length q) + b ≡ suc (length q + b) = omega arith in rw e (zeros_before q b)
zeros_before (true ∷ q) b = let e : suc (length q) + b ≡ suc (length q + b) = omega arith in rw e

zeros_after : (p : List Bool) (a : ℕ) → ordering_then (bits_cmp (p ++ replicate a false) (replicate (length p + a) false)) Greater ≡ Greater
zeros_after [] a = rw (zero-add, tied_itself bits_total (replicate a false))
zeros_after (false ∷ p) a = let e : suc (length p) + a ≡ suc (length p + a) = omega arith in rw e (zeros_after p a)
zeros_after (true ∷ p) a = let e : suc (length p) + a ≡ suc (length p + a) = omega arith in rw e

shorter : (n : ℕ) → nat_cmp 0 (suc n) ≡ Less
shorter n = grind (arith, nat_tests)

longer : (n : ℕ) → nat_cmp (suc n) 0 ≡ Greater
longer n = grind (arith, nat_tests)

both_longer : (m n : ℕ) → nat_cmp (suc m) (suc n) ≡ nat_cmp m n
both_longer m n = grind (arith, nat_tests)

padded_compare : (p q : List Bool) (a b : ℕ) → length p + a ≡ length q + b
    → ordering_then (bits_cmp (p ++ replicate a false) (q ++ replicate b false)) (nat_cmp (length p) (length q)) ≡ bits_cmp p q
padded_compare [] [] a b e = let same : a ≡ b = omega arith in rw (same, tied_itself bits_total (replicate b false))
padded_compare [] (y ∷ q) a b e =
    let same : a ≡ suc (length q) + b = omega arith in
    rw (same, shorter (length q)) (zeros_before (y ∷ q) b)
padded_compare (x ∷ p) [] a b e =
    let same : b ≡ suc (length p) + a = omega arith in
    rw (same, longer (length p)) (zeros_after (x ∷ p) a)
padded_compare (x ∷ p) (y ∷ q) a b e =
    then_assoc (bool_cmp x y) (bits_cmp (p ++ replicate a false) (q ++ replicate b false)) (nat_cmp (suc (length p)) (suc (length q)))
    ∙ ap (λ o. ordering_then (bool_cmp x y) (ordering_then (bits_cmp (p ++ replicate a false) (q ++ replicate b false)) o)) (both_longer (length p) (length q))
    ∙ ap (ordering_then (bool_cmp x y)) (padded_compare p q a b (omega arith))

pub stored_compare : (count most : ℕ) (ws : List ℕ) (m : ℕ) (vs : List ℕ) (n : ℕ) → IsStored count most ws m → IsStored count most vs n
    → ordering_then (slice_cmp nat_cmp ws vs) (nat_cmp m n) ≡ bits_cmp (stored_bits ws m) (stored_bits vs n)
stored_compare count most ws m vs n s t =
    let low : m ≤ most = s.within in
    let lower : n ≤ most = t.within in
    ap (λ o. ordering_then o (nat_cmp m n))
    (words_compare ws vs (s.count_is ∙ sym t.count_is) s.fits t.fits
    ∙ ap (λ p. bits_cmp p (all_bits vs)) (all_bits_are count most ws m s)
    ∙ ap (bits_cmp (stored_bits ws m ++ replicate (most - m) false)) (all_bits_are count most vs n t))
    ∙ ap (λ i. ordering_then (bits_cmp (stored_bits ws m ++ replicate (most - m) false) (stored_bits vs n ++ replicate (most - n) false)) (nat_cmp i n)) (sym (length-stored_bits ws m))
    ∙ ap (λ i. ordering_then (bits_cmp (stored_bits ws m ++ replicate (most - m) false) (stored_bits vs n ++ replicate (most - n) false)) (nat_cmp (length (stored_bits ws m)) i)) (sym (length-stored_bits vs n))
    ∙ padded_compare (stored_bits ws m) (stored_bits vs n) (most - m) (most - n) (omega (arith, length-stored_bits ws m, length-stored_bits vs n))

-- ---- equality

pub same_words : (count most : ℕ) (ws : List ℕ) (m : ℕ) (vs : List ℕ) (n : ℕ) → IsStored count most ws m → IsStored count most vs n
    → stored_bits ws m ≡ stored_bits vs n → ws ≡ vs
same_words count most ws m vs n s t e =
    sym (words_of-stored count most ws m s) ∙ ap (words_of count) e ∙ words_of-stored count most vs n t

pub same_len : (ws : List ℕ) (m : ℕ) (vs : List ℕ) (n : ℕ) → stored_bits ws m ≡ stored_bits vs n → m ≡ n
same_len ws m vs n e = sym (length-stored_bits ws m) ∙ ap length e ∙ length-stored_bits vs n

words_decide : (ws vs : List ℕ) → Decides (pointwise nat_eq ws vs) (ws ≡ vs)
words_decide = pointwise_decides unsigned_Decides

module _ (count most : ℕ) (ws : List ℕ) (m : ℕ) (vs : List ℕ) (n : ℕ) (s : IsStored count most ws m) (t : IsStored count most vs n) where
  pub equal_words : pointwise nat_eq ws vs ≡ true → nat_eq m n ≡ bits_eq (stored_bits ws m) (stored_bits vs n)
  equal_words h =
      let words : ws ≡ vs = (words_decide ws vs).0 h in
      same_from_decides {P = m ≡ n} (nat_eq m n) (bits_eq (stored_bits ws m) (stored_bits vs n)) (unsigned_Decides m n) (
        λ e. same_len ws m vs n ((bits_decide (stored_bits ws m) (stored_bits vs n)).0 e),
        λ e. (bits_decide (stored_bits ws m) (stored_bits vs n)).1 (ap (λ l. stored_bits l m) words ∙ ap (stored_bits vs) e),
      )

  pub other_words : pointwise nat_eq ws vs ≡ false → pointwise nat_eq ws vs ≡ bits_eq (stored_bits ws m) (stored_bits vs n)
  other_words h =
      same_from_decides {P = ws ≡ vs} (pointwise nat_eq ws vs) (bits_eq (stored_bits ws m) (stored_bits vs n)) (words_decide ws vs) (
        λ e. same_words count most ws m vs n s t ((bits_decide (stored_bits ws m) (stored_bits vs n)).0 e),
        λ e. absurd (let yes : pointwise nat_eq ws vs ≡ true = (words_decide ws vs).1 e in cc),
      )
