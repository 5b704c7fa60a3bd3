-- Bits of bytes, by place, and the two round trips.
use Rattle.std.proofs.Common.{◌≡◌, ℕ, zero, suc, ◌+◌, ◌-◌, ◌*◌, ◌/◌, ◌%◌, ◌^◌, ◌<◌, ◌==◌, Bool, true, false, List, [], ◌∷◌, ◌++◌, length, get_or, bit_and, inl, inr, refl, sym, ap, ◌∙◌, arith}
use Rattle.std.specs.Int.{bit_at}
use Rattle.std.proofs.lemmas.Bool.{cases_lt}
use Rattle.std.proofs.lemmas.List.{get_or_append_left, get_or-append_right}
use Rattle.std.proofs.lemmas.Nat.{shr-shr, and_le_r}
use Rattle.std.proofs.lemmas.Nat.Bits.{bit_at-suc, bit_at_lowest, bit_at_and, bit_at_ones, bit_at-lt}
use Rattle.prefix_bits.specs.Bits.{bit, low_bits, bits_of_byte, bits_of_bytes, with_bit, byte_of_bits, bytes_of_bits}
use Rattle.prefix_bits.specs.Stored.{stored_bit, stored_bits}
use Rattle.prefix_bits.proofs.StoredLists.{same_stored}
use Rattle.prefix_bits.proofs.Writes.{get_or-low_bits}

pub length-bits_of_bytes : (bytes : List ℕ) → length (bits_of_bytes bytes) ≡ 8 * length bytes
length-bits_of_bytes [] = refl
length-bits_of_bytes (b ∷ bytes) = let more = length-bits_of_bytes bytes in omega arith

pub bits_of_bytes-append : (xs ys : List ℕ) → bits_of_bytes (xs ++ ys) ≡ bits_of_bytes xs ++ bits_of_bytes ys
bits_of_bytes-append [] ys = refl
bits_of_bytes-append (x ∷ xs) ys = ap (λ bits. bits_of_byte x ++ bits) (bits_of_bytes-append xs ys)

pub get_or-bits_of_bytes : (bytes : List ℕ) (place : ℕ) → place < 8 * length bytes
    → get_or (bits_of_bytes bytes) place false ≡ bit (get_or bytes (place / 8) 0) (7 - place % 8)
get_or-bits_of_bytes [] place h = absurd (omega arith)
get_or-bits_of_bytes (b ∷ bytes) place h =
    elim (cases_lt place 8) [
      | inl l ↦
          let at : place / 8 ≡ 0 = omega arith in
          let weight : 8 - 1 - place ≡ 7 - place % 8 = omega arith in
          get_or_append_left (bits_of_byte b) (bits_of_bytes bytes) false place l
          ∙ get_or-low_bits 8 b place l ∙ ap (bit b) weight ∙ ap (λ i. bit (get_or (b ∷ bytes) i 0) (7 - place % 8)) (sym at)
      | inr l ↦
          let at : place / 8 ≡ suc ((place - 8) / 8) = omega arith in
          let weight : (place - 8) % 8 ≡ place % 8 = omega arith in
          get_or-append_right (bits_of_byte b) (bits_of_bytes bytes) 8 place false refl l
          ∙ get_or-bits_of_bytes bytes (place - 8) (omega arith)
          ∙ ap (λ r. bit (get_or bytes ((place - 8) / 8) 0) (7 - r)) weight
          ∙ ap (λ i. bit (get_or (b ∷ bytes) i 0) (7 - place % 8)) (sym at)
    ]

-- ---- one byte

half : (n : ℕ) → with_bit (n / 2) (n % 2 == 1) ≡ n
half n = grind arith

joined : (n k : ℕ) → with_bit (n / 2 ^ suc k) (bit n k) ≡ n / 2 ^ k
joined n k =
    let e : n / 2 ^ suc k ≡ n / 2 ^ k / 2 = ap (λ j. n / 2 ^ j) (omega arith) ∙ sym (shr-shr n k 1) in
    rw e (half (n / 2 ^ k))

pub byte_of_own_bits : (n : ℕ) → n < 2 ^ 8 → byte_of_bits (bit n 7) (bit n 6) (bit n 5) (bit n 4) (bit n 3) (bit n 2) (bit n 1) (bit n 0) ≡ n
byte_of_own_bits n small =
    omega (arith, joined n 7, joined n 6, joined n 5, joined n 4, joined n 3, joined n 2, joined n 1, joined n 0)

pub bytes_come_back : (bytes : List ℕ) → ((i : ℕ) → i < length bytes → get_or bytes i 0 < 2 ^ 8) → bytes_of_bits (bits_of_bytes bytes) ≡ bytes
bytes_come_back [] small = refl
bytes_come_back (b ∷ bytes) small =
    ap (λ n. n ∷ bytes_of_bits (bits_of_bytes bytes)) (byte_of_own_bits b (small 0 (omega arith)))
    ∙ ap (λ l. b ∷ l) (bytes_come_back bytes (λ i h. small (suc i) (omega arith)))

lowest : (n : ℕ) (b : Bool) → bit (with_bit n b) 0 ≡ b
lowest n true = let e = bit_at_lowest (2 * n + 1) in grind arith
lowest n false = let e = bit_at_lowest (2 * n + 0) in grind arith

higher : (n : ℕ) (b : Bool) (k : ℕ) → bit (with_bit n b) (suc k) ≡ bit n k
higher n true k = let e : (2 * n + 1) / 2 ≡ n = omega arith in ap (λ x. x == 1) (bit_at-suc (2 * n + 1) k ∙ ap (λ m. bit_at m k) e)
higher n false k = let e : (2 * n + 0) / 2 ≡ n = omega arith in ap (λ x. x == 1) (bit_at-suc (2 * n + 0) k ∙ ap (λ m. bit_at m k) e)

pushed : (k n : ℕ) (b : Bool) → low_bits (suc k) (with_bit n b) ≡ low_bits k n ++ b ∷ []
pushed zero n b = ap (λ x. x ∷ []) (lowest n b)
pushed (suc k) n b =
    ap (λ x. x ∷ low_bits (suc k) (with_bit n b)) (higher n b k) ∙ ap (λ l. bit n k ∷ l) (pushed k n b)

bits_of_own_byte : (a b c d e f g h : Bool) → bits_of_byte (byte_of_bits a b c d e f g h) ≡ a ∷ b ∷ c ∷ d ∷ e ∷ f ∷ g ∷ h ∷ []
bits_of_own_byte a b c d e f g h =
    let n1 : ℕ = with_bit 0 a in
    let n2 : ℕ = with_bit n1 b in
    let n3 : ℕ = with_bit n2 c in
    let n4 : ℕ = with_bit n3 d in
    let n5 : ℕ = with_bit n4 e in
    let n6 : ℕ = with_bit n5 f in
    let n7 : ℕ = with_bit n6 g in
    pushed 7 n7 h ∙ ap (λ l. l ++ h ∷ [])
    (pushed 6 n6 g ∙ ap (λ l. l ++ g ∷ [])
    (pushed 5 n5 f ∙ ap (λ l. l ++ f ∷ [])
    (pushed 4 n4 e ∙ ap (λ l. l ++ e ∷ [])
    (pushed 3 n3 d ∙ ap (λ l. l ++ d ∷ [])
    (pushed 2 n2 c ∙ ap (λ l. l ++ c ∷ [])
    (pushed 1 n1 b ∙ ap (λ l. l ++ b ∷ [])
    (pushed 0 0 a)))))))

pub bits_come_back : (bits : List Bool) (count : ℕ) → length bits ≡ 8 * count → bits_of_bytes (bytes_of_bits bits) ≡ bits
bits_come_back [] count l = refl
bits_come_back (a ∷ []) count l = absurd (omega arith)
bits_come_back (a ∷ b ∷ []) count l = absurd (omega arith)
bits_come_back (a ∷ b ∷ c ∷ []) count l = absurd (omega arith)
bits_come_back (a ∷ b ∷ c ∷ d ∷ []) count l = absurd (omega arith)
bits_come_back (a ∷ b ∷ c ∷ d ∷ e ∷ []) count l = absurd (omega arith)
bits_come_back (a ∷ b ∷ c ∷ d ∷ e ∷ f ∷ []) count l = absurd (omega arith)
bits_come_back (a ∷ b ∷ c ∷ d ∷ e ∷ f ∷ g ∷ []) count l = absurd (omega arith)
bits_come_back (a ∷ b ∷ c ∷ d ∷ e ∷ f ∷ g ∷ h ∷ bits) count l =
    ap (λ first. first ++ bits_of_bytes (bytes_of_bits bits)) (bits_of_own_byte a b c d e f g h)
    ∙ ap (λ rest. a ∷ b ∷ c ∷ d ∷ e ∷ f ∷ g ∷ h ∷ rest) (bits_come_back bits (count - 1) (omega arith))

-- ---- the bytes of a stored prefix

-- the byte at a place of the words
abbrev pub stored_byte : List ℕ → ℕ → ℕ
stored_byte words index = bit_and (get_or words (index / 8) 0 / 2 ^ (56 - 8 * (index % 8))) 255

low_byte_bit : (n t : ℕ) → t < 8 → bit_at (bit_and n 255) t ≡ bit_at n t
low_byte_bit n t h = omega (arith, bit_at_and n 255 t, bit_at_ones 8 t h, bit_at-lt n t)

stored_byte_bit : (words : List ℕ) (place : ℕ) → bit (stored_byte words (place / 8)) (7 - place % 8) ≡ stored_bit words place
unfolding stored_bit
stored_byte_bit words place =
    let word : place / 8 / 8 ≡ place / 64 = omega arith in
    let weight : 56 - 8 * (place / 8 % 8) + (7 - place % 8) ≡ 63 - place % 64 = omega arith in
    ap (λ x. x == 1)
    (low_byte_bit (get_or words (place / 8 / 8) 0 / 2 ^ (56 - 8 * (place / 8 % 8))) (7 - place % 8) (omega arith)
    ∙ ap (λ x. x % 2) (shr-shr (get_or words (place / 8 / 8) 0) (56 - 8 * (place / 8 % 8)) (7 - place % 8)
    ∙ ap (λ k. get_or words (place / 8 / 8) 0 / 2 ^ k) weight ∙ ap (λ i. get_or words i 0 / 2 ^ (63 - place % 64)) word))

module _ (words : List ℕ) (len : ℕ) (bytes : List ℕ) (whole : len ≡ 8 * length bytes) (each : (k : ℕ) → k < length bytes → get_or bytes k 0 ≡ stored_byte words k) where
  pub bits_of_written : bits_of_bytes bytes ≡ stored_bits words len
  bits_of_written =
      same_stored words len (bits_of_bytes bytes) (length-bits_of_bytes bytes ∙ sym whole)
      (λ place h.
      get_or-bits_of_bytes bytes place (omega arith)
      ∙ ap (λ n. bit n (7 - place % 8)) (each (place / 8) (omega arith)) ∙ stored_byte_bit words place)

  pub written_is : bytes ≡ bytes_of_bits (stored_bits words len)
  written_is =
      sym (bytes_come_back bytes (λ i h. rw (each i h) (omega (arith, and_le_r (get_or words (i / 8) 0 / 2 ^ (56 - 8 * (i % 8))) 255))))
      ∙ ap bytes_of_bits bits_of_written
