-- The two sides of a generated pair add up to the point function.
use Rattle.std.proofs.Common.{◌≡◌, ℕ, zero, suc, ◌+◌, ◌-◌, ◌%◌, ◌<◌, ◌≤◌, Bool, true, false, not, List, [], ◌∷◌, length, refl, sym, ◌∙◌, ap, subst, arith}
use Rattle.std.specs.Prelude.{if◌then◌else◌, map, slice_index_or}
use Rattle.definitions.specs.declared.Side.{Side}
use Rattle.definitions.specs.declared.Side.TheVariants.{Zero, One}
use Rattle.definitions.specs.Field.{modulus, add, sub}
use Rattle.definitions.specs.Words.{seed_xor, extend, convert}
use Rattle.definitions.specs.Evaluation.{LevelWord, Node, kept_seed, child_seed, child_bit, child_value, child, descend, node, root}
use Rattle.definitions.specs.Prefixes.{xor, is_prefix}
use Rattle.definitions.specs.Generation.{Path, LevelCoins, value_signed, value_word, path_after, words0, words1, share0, share1, start, joint_correlation}
use Rattle.definitions.specs.Sketch.{Triple}
use Rattle.generation_laws.specs.Points.{AddUpTo, PointLaw, coins_at, no_coins}
use Rattle.definitions.proofs.Ring.{var, num, ◌⊕◌, ◌⊖◌, minus_one_times, ring}
use Rattle.definitions.proofs.EvaluationLaws.{descend-nil}
use Rattle.definitions.proofs.WordLaws.{length-part, seed_xor-first, seed_xor-second}

-- ---- bits

bits_on : (t0 t1 a b : Bool) → xor t0 t1 ≡ true
    → xor (if t0 then xor a (xor (xor a b) true) else a) (if t1 then xor b (xor (xor a b) true) else b) ≡ true
bits_on true true a b e = cc
bits_on false false a b e = cc
bits_on true false true true e = refl
bits_on true false true false e = refl
bits_on true false false true e = refl
bits_on true false false false e = refl
bits_on false true true true e = refl
bits_on false true true false e = refl
bits_on false true false true e = refl
bits_on false true false false e = refl

bits_off : (t0 t1 a b : Bool) → xor t0 t1 ≡ true
    → (if t0 then xor a (xor (xor a b) false) else a) ≡ (if t1 then xor b (xor (xor a b) false) else b)
bits_off true true a b e = cc
bits_off false false a b e = cc
bits_off true false true true e = refl
bits_off true false true false e = refl
bits_off true false false true e = refl
bits_off true false false false e = refl
bits_off false true true true e = refl
bits_off false true true false e = refl
bits_off false true false true e = refl
bits_off false true false false e = refl

-- ---- seeds

length-kept_seed : (seed : List ℕ) (bit : Bool) → length (kept_seed (extend seed) bit) ≡ 32
length-kept_seed seed true = length-part seed 0 8
length-kept_seed seed false = length-part seed 0 0

seeds_off : (t0 t1 : Bool) (a b : List ℕ) → xor t0 t1 ≡ true → length a ≡ length b
    → (if t0 then seed_xor a (seed_xor a b) else a) ≡ (if t1 then seed_xor b (seed_xor a b) else b)
seeds_off true true a b e h = cc
seeds_off false false a b e h = cc
seeds_off true false a b e h = seed_xor-first a b h
seeds_off false true a b e h = sym (seed_xor-second a b h)

-- ---- values

pub plain : (x : ℕ) → x % modulus ≡ add 0 x
unfolding add
plain x = ap (λ y. y % modulus) (omega arith)

-- where the bits differ, the two sides' elements add up to x
values_on : (t0 t1 : Bool) (x y z : ℕ) → xor t0 t1 ≡ true
    → let w = value_signed t1 (add (sub x y) z) in add (child_value Zero t0 y w) (child_value One t1 z w) ≡ add 0 x
values_on true true x y z e = cc
values_on false false x y z e = cc
values_on true false x y z e =
    simp plain (ring (x ∷ y ∷ z ∷ []) (num 0 ⊕ var 1 ⊕ (var 0 ⊖ var 1 ⊕ var 2) ⊕ minus_one_times (num 0 ⊕ var 2)) (num 0 ⊕ var 0) refl refl refl)
values_on false true x y z e =
    simp plain (ring (x ∷ y ∷ z ∷ [])
    (num 0 ⊕ var 1 ⊕ minus_one_times (num 0 ⊕ var 2 ⊕ minus_one_times (var 0 ⊖ var 1 ⊕ var 2))) (num 0 ⊕ var 0) refl refl refl)

-- where the two sides have one bit and one number, their elements cancel
values_off : (t : Bool) (x w : ℕ) → add (child_value Zero t x w) (child_value One t x w) ≡ 0
values_off true x w = ring (x % modulus ∷ w ∷ []) (var 0 ⊕ var 1 ⊕ minus_one_times (var 0 ⊕ var 1)) (num 0) refl refl refl
values_off false x w = ring (x % modulus ∷ []) (var 0 ⊕ minus_one_times (var 0)) (num 0) refl refl refl

-- ---- one level

-- the path on which two nodes stand
abbrev pub path_of : Node → Node → Path
path_of n0 n1 = record { seed0 = n0.seed; bit0 = n0.bit; seed1 = n1.seed; bit1 = n1.bit }

-- on the path the bits differ, and the values add up to 1 and k
pub record IsOn (n0 n1 : Node) (k : ℕ) : Type 0 where
  pub differ : xor n0.bit n1.bit ≡ true
  pub d : add n0.d n1.d ≡ add 0 1
  pub e : add n0.e n1.e ≡ add 0 k

-- off the path both sides have the same seed and bit, and the values cancel
pub record IsOff (n0 n1 : Node) : Type 0 where
  pub seed : n0.seed ≡ n1.seed
  pub bit : n0.bit ≡ n1.bit
  pub d : add n0.d n1.d ≡ 0
  pub e : add n0.e n1.e ≡ 0

path_after-is : (n0 n1 : Node) (bit : Bool) (k : ℕ)
    → let word = value_word (path_of n0 n1) bit k in
    path_after (path_of n0 n1) bit ≡ path_of (child word Zero n0 bit) (child word One n1 bit)
unfolding path_after child value_word
path_after-is n0 n1 true k = refl
path_after-is n0 n1 false k = refl

step_on : (n0 n1 : Node) (bit : Bool) (k : ℕ) → xor n0.bit n1.bit ≡ true
    → let word = value_word (path_of n0 n1) bit k in IsOn (child word Zero n0 bit) (child word One n1 bit) k
unfolding child value_word
step_on n0 n1 true k h =
    let new = bits_on n0.bit n1.bit (extend n0.seed).bit_right (extend n1.seed).bit_right h in
    record { differ = new; d = values_on _ _ 1 _ _ new; e = values_on _ _ k _ _ new }
step_on n0 n1 false k h =
    let new = bits_on n0.bit n1.bit (extend n0.seed).bit_left (extend n1.seed).bit_left h in
    record { differ = new; d = values_on _ _ 1 _ _ new; e = values_on _ _ k _ _ new }

cancel : (t0 t1 : Bool) (x y w : ℕ) → t0 ≡ t1 → x ≡ y → add (child_value Zero t0 x w) (child_value One t1 y w) ≡ 0
cancel t0 t1 x y w e f =
    ap (λ t. add (child_value Zero t x w) (child_value One t1 y w)) e
    ∙ ap (λ z. add (child_value Zero t1 z w) (child_value One t1 y w)) f
    ∙ values_off t1 y w

step_off : (n0 n1 : Node) (bit : Bool) (k : ℕ) → xor n0.bit n1.bit ≡ true
    → let word = value_word (path_of n0 n1) bit k in IsOff (child word Zero n0 (not bit)) (child word One n1 (not bit))
unfolding child value_word
step_off n0 n1 true k h =
    let seeds = seeds_off n0.bit n1.bit (kept_seed (extend n0.seed) false) (kept_seed (extend n1.seed) false) h
    (length-kept_seed n0.seed false ∙ sym (length-kept_seed n1.seed false)) in
    let bits = bits_off n0.bit n1.bit (extend n0.seed).bit_left (extend n1.seed).bit_left h in
    record {
      seed = ap (λ s. (convert s).next) seeds;
      bit = bits;
      d = cancel _ _ _ _ _ bits (ap (λ s. (convert s).u) seeds);
      e = cancel _ _ _ _ _ bits (ap (λ s. (convert s).v) seeds);
    }
step_off n0 n1 false k h =
    let seeds = seeds_off n0.bit n1.bit (kept_seed (extend n0.seed) true) (kept_seed (extend n1.seed) true) h
    (length-kept_seed n0.seed true ∙ sym (length-kept_seed n1.seed true)) in
    let bits = bits_off n0.bit n1.bit (extend n0.seed).bit_right (extend n1.seed).bit_right h in
    record {
      seed = ap (λ s. (convert s).next) seeds;
      bit = bits;
      d = cancel _ _ _ _ _ bits (ap (λ s. (convert s).u) seeds);
      e = cancel _ _ _ _ _ bits (ap (λ s. (convert s).v) seeds);
    }

stays_off : (word : LevelWord) (n0 n1 : Node) (bit : Bool) → IsOff n0 n1 → IsOff (child word Zero n0 bit) (child word One n1 bit)
unfolding child
stays_off word n0 n1 bit off =
    let seeds : child_seed word n0.seed n0.bit bit ≡ child_seed word n1.seed n1.bit bit =
    ap (λ s. child_seed word s n0.bit bit) off.seed ∙ ap (λ t. child_seed word n1.seed t bit) off.bit in
    let bits : child_bit word n0.seed n0.bit bit ≡ child_bit word n1.seed n1.bit bit =
    ap (λ s. child_bit word s n0.bit bit) off.seed ∙ ap (λ t. child_bit word n1.seed t bit) off.bit in
    record {
      seed = ap (λ s. (convert s).next) seeds;
      bit = bits;
      d = cancel _ _ _ _ _ bits (ap (λ s. (convert s).u) seeds);
      e = cancel _ _ _ _ _ bits (ap (λ s. (convert s).v) seeds);
    }

-- ---- a whole prefix

-- the data of the last level of a prefix, and k where the prefix is empty
abbrev k_at : ℕ → List Bool → List LevelCoins → ℕ
k_at k [] coins = k
k_at k (b ∷ q) [] = k
k_at k (b ∷ q) (c ∷ coins) = k_at c.k q coins

k_at-length : (i k : ℕ) (q : List Bool) (coins : List LevelCoins) → length q ≡ i + 1 → i < length coins
    → k_at k q coins ≡ (slice_index_or coins i no_coins).k
k_at-length i k [] coins e p = absurd (omega arith)
k_at-length i k (b ∷ q) [] e p = absurd (omega arith)
k_at-length zero k (b ∷ []) (c ∷ coins) e p = refl
k_at-length zero k (b ∷ b' ∷ q) (c ∷ coins) e p = absurd (omega arith)
k_at-length (suc i) k (b ∷ q) (c ∷ coins) e p = k_at-length i c.k q coins (omega arith) (omega arith)

all_off : (words : List LevelWord) (n0 n1 : Node) (q : List Bool) → IsOff n0 n1
    → IsOff (descend words Zero n0 q) (descend words One n1 q)
unfolding descend
all_off [] n0 n1 q off = off
all_off (word ∷ words) n0 n1 [] off = off
all_off (word ∷ words) n0 n1 (bit ∷ q) off = all_off words (child word Zero n0 bit) (child word One n1 bit) q (stays_off word n0 n1 bit off)

-- the words of a path without the numbers of the sketch
abbrev pub path_words : Path → List Bool → List LevelCoins → List LevelWord
path_words path [] coins = []
path_words path (bit ∷ bits) [] = []
path_words path (bit ∷ bits) (c ∷ coins) = value_word path bit c.k ∷ path_words (path_after path bit) bits coins

abbrev pub HasPoint : Bool → ℕ → Node → Node → Type 0
HasPoint true k n0 n1 = IsOn n0 n1 k
HasPoint false k n0 n1 = IsOff n0 n1

point_from : (q bits : List Bool) (coins : List LevelCoins) (n0 n1 : Node) (k : ℕ) → xor n0.bit n1.bit ≡ true → (q ≡ [] → IsOn n0 n1 k)
    → length q ≤ length bits → length bits ≤ length coins
    → let words = path_words (path_of n0 n1) bits coins in
    HasPoint (is_prefix q bits) (k_at k q coins) (descend words Zero n0 q) (descend words One n1 q)
unfolding descend
point_from [] bits coins n0 n1 k h on p r =
    let words = path_words (path_of n0 n1) bits coins in
    subst (λ m0. IsOn m0 (descend words One n1 []) k) (sym (descend-nil words Zero n0))
    (subst (λ m1. IsOn n0 m1 k) (sym (descend-nil words One n1)) (on refl))
point_from (b ∷ q) [] coins n0 n1 k h on p r = absurd (omega arith)
point_from (b ∷ q) (a ∷ bits) [] n0 n1 k h on p r = absurd (omega arith)
point_from (true ∷ q) (true ∷ bits) (c ∷ coins) n0 n1 k h on p r =
    let word = value_word (path_of n0 n1) true c.k in
    let m0 = child word Zero n0 true in
    let m1 = child word One n1 true in
    subst (λ path. HasPoint (is_prefix q bits) (k_at c.k q coins)
    (descend (path_words path bits coins) Zero m0 q) (descend (path_words path bits coins) One m1 q))
    (sym (path_after-is n0 n1 true c.k))
    (let on_next = step_on n0 n1 true c.k h in
    point_from q bits coins m0 m1 c.k on_next.differ (λ _. on_next) (omega arith) (omega arith))
point_from (false ∷ q) (false ∷ bits) (c ∷ coins) n0 n1 k h on p r =
    let word = value_word (path_of n0 n1) false c.k in
    let m0 = child word Zero n0 false in
    let m1 = child word One n1 false in
    subst (λ path. HasPoint (is_prefix q bits) (k_at c.k q coins)
    (descend (path_words path bits coins) Zero m0 q) (descend (path_words path bits coins) One m1 q))
    (sym (path_after-is n0 n1 false c.k))
    (let on_next = step_on n0 n1 false c.k h in
    point_from q bits coins m0 m1 c.k on_next.differ (λ _. on_next) (omega arith) (omega arith))
point_from (true ∷ q) (false ∷ bits) (c ∷ coins) n0 n1 k h on p r =
    all_off (path_words (path_after (path_of n0 n1) false) bits coins) _ _ q (step_off n0 n1 false c.k h)
point_from (false ∷ q) (true ∷ bits) (c ∷ coins) n0 n1 k h on p r =
    all_off (path_words (path_after (path_of n0 n1) true) bits coins) _ _ q (step_off n0 n1 true c.k h)

-- ---- the two shares

-- the numbers of the sketch are not read
abbrev pub core : LevelWord → LevelWord
core word = record word { a = 0; b = 0 }

descend-core : (words : List LevelWord) (side : Side) (node : Node) (q : List Bool) → descend (map core words) side node q ≡ descend words side node q
unfolding descend child
descend-core [] side node q = refl
descend-core (word ∷ words) side node [] = refl
descend-core (word ∷ words) side node (bit ∷ q) = descend-core words side (child word side node bit) q

core-words0 : (path : Path) (bits : List Bool) (coins : List LevelCoins) → map core (words0 path bits coins) ≡ path_words path bits coins
unfolding value_word
core-words0 path [] coins = refl
core-words0 path (bit ∷ bits) [] = refl
core-words0 path (bit ∷ bits) (c ∷ coins) = ap (λ ws. value_word path bit c.k ∷ ws) (core-words0 (path_after path bit) bits coins)

core-words1 : (joint : ℕ → Triple) (level : ℕ) (path : Path) (bits : List Bool) (coins : List LevelCoins)
    → map core (words1 joint level path bits coins) ≡ path_words path bits coins
unfolding value_word
core-words1 joint level path [] coins = refl
core-words1 joint level path (bit ∷ bits) [] = refl
core-words1 joint level path (bit ∷ bits) (c ∷ coins) =
    ap (λ ws. value_word path bit c.k ∷ ws) (core-words1 joint (level + 1) (path_after path bit) bits coins)

from_point : (b : Bool) (k : ℕ) (n0 n1 : Node) → HasPoint b k n0 n1 → AddUpTo n0 n1 (if b then 1 else 0) (if b then k % modulus else 0)
from_point true k n0 n1 on = record { d = on.d ∙ ring [] (num 0 ⊕ num 1) (num 1) refl refl refl; e = on.e ∙ sym (plain k) }
from_point false k n0 n1 off = record { d = off.d; e = off.e }

pub point_law : PointLaw
point_law id string coins q o p r =
    let root0 = root (share0 id string coins) Zero in
    let root1 = root (share1 id string coins) One in
    let words = path_words (start coins) string coins.levels in
    let same0 : descend words Zero root0 q ≡ node (share0 id string coins) Zero q =
    ap (λ ws. descend ws Zero root0 q) (sym (core-words0 (start coins) string coins.levels)) ∙ descend-core (words0 (start coins) string coins.levels) Zero root0 q in
    let same1 : descend words One root1 q ≡ node (share1 id string coins) One q =
    ap (λ ws. descend ws One root1 q) (sym (core-words1 (joint_correlation coins) 1 (start coins) string coins.levels))
    ∙ descend-core (words1 (joint_correlation coins) 1 (start coins) string coins.levels) One root1 q in
    let some : q ≡ [] → IsOn root0 root1 0 = λ e. absurd (let none = ap length e in omega arith) in
    let point = point_from q string coins.levels root0 root1 0 refl some p r in
    let data_is : k_at 0 q coins.levels ≡ (coins_at coins (length q)).k = k_at-length (length q - 1) 0 q coins.levels (omega arith) (omega arith) in
    let law = from_point (is_prefix q string) (coins_at coins (length q)).k _ _
    (subst (λ k. HasPoint (is_prefix q string) k (descend words Zero root0 q) (descend words One root1 q)) data_is point) in
    record {
      d = ap (λ n. add n.d (node (share1 id string coins) One q).d) (sym same0) ∙ ap (λ n. add (descend words Zero root0 q).d n.d) (sym same1) ∙ law.d;
      e = ap (λ n. add n.e (node (share1 id string coins) One q).e) (sym same0) ∙ ap (λ n. add (descend words Zero root0 q).e n.e) (sym same1) ∙ law.e;
    }
