-- A generated report passes at each level, over each list of candidates.
use Rattle.std.proofs.Common.{◌≡◌, ℕ, zero, suc, ◌+◌, ◌-◌, ◌%◌, ◌<◌, ◌≤◌, inl, inr, Bool, true, false, List, [], ◌∷◌, length, refl, sym, ◌∙◌, ap, subst, arith}
use Rattle.std.specs.Prelude.{if◌then◌else◌, map, slice_index_or}
use Rattle.definitions.specs.declared.Side.TheVariants.{Zero, One}
use Rattle.definitions.specs.Field.{modulus, add, sub, mul}
use Rattle.definitions.specs.Evaluation.{node, no_word}
use Rattle.definitions.specs.Prefixes.{xor, is_prefix, AreCandidates, IsNotIn}
use Rattle.definitions.specs.Sketch.{Triple, Sums, correlation, correction_a, correction_b, sigma}
use Rattle.definitions.specs.Generation.{Path, LevelCoins, ClientCoins, joint_correlation, path_after, words0, words1, start, share0, share1}
use Rattle.definitions.specs.Check.{Passes, opened_sums}
use Rattle.definitions.proofs.Ring.{var, num, ◌⊕◌, ◌⊗◌, ring}
use Rattle.generation_laws.specs.Points.{no_coins}
use Rattle.generation_laws.specs.Honest.{HonestLaw}
use Rattle.generation_laws.proofs.PointLaws.{point_law, plain}
use Rattle.generation_laws.proofs.UnitLaws.{AtMostOne, AllNothing, honest_passes}

-- ---- what the words of a level hold

abbrev coins_at : List LevelCoins → ℕ → LevelCoins
coins_at coins i = slice_index_or coins i no_coins

a_of-words0 : (i : ℕ) (path : Path) (bits : List Bool) (coins : List LevelCoins) → i < length bits → length bits ≤ length coins
    → ((slice_index_or (words0 path bits coins) i no_word).a ≡ (coins_at coins i).a0)
    × ((slice_index_or (words0 path bits coins) i no_word).b ≡ (coins_at coins i).b0)
a_of-words0 i path [] coins p r = absurd (omega arith)
a_of-words0 i path (bit ∷ bits) [] p r = absurd (omega arith)
a_of-words0 zero path (bit ∷ bits) (c ∷ coins) p r = (refl, refl)
a_of-words0 (suc i) path (bit ∷ bits) (c ∷ coins) p r = a_of-words0 i (path_after path bit) bits coins (omega arith) (omega arith)

a_of-words1 : (joint : ℕ → Triple) (level i : ℕ) (path : Path) (bits : List Bool) (coins : List LevelCoins) → i < length bits → length bits ≤ length coins
    → let word = slice_index_or (words1 joint level path bits coins) i no_word in
    let c = coins_at coins i in
    (word.a ≡ sub (correction_a (joint (level + i)) c.k) c.a0) × (word.b ≡ sub (correction_b (joint (level + i)) c.k) c.b0)
a_of-words1 joint level i path [] coins p r = absurd (omega arith)
a_of-words1 joint level i path (bit ∷ bits) [] p r = absurd (omega arith)
a_of-words1 joint level zero path (bit ∷ bits) (c ∷ coins) p r =
    let same : level ≡ level + 0 = omega arith in
    (ap (λ l. sub (correction_a (joint l) c.k) c.a0) same, ap (λ l. sub (correction_b (joint l) c.k) c.b0) same)
a_of-words1 joint level (suc i) path (bit ∷ bits) (c ∷ coins) p r =
    let same : level + 1 + i ≡ level + suc i = omega arith in
    let rest = a_of-words1 joint (level + 1) i (path_after path bit) bits coins (omega arith) (omega arith) in
    let d = coins_at coins i in
    (rest.0 ∙ ap (λ l. sub (correction_a (joint l) d.k) d.a0) same, rest.1 ∙ ap (λ l. sub (correction_b (joint l) d.k) d.b0) same)

-- ---- the string has one prefix of each length

xor-equal : (a b : Bool) → xor a b ≡ false → a ≡ b
xor-equal true true e = refl
xor-equal true false e = cc
xor-equal false b e = sym e

both : (b c : Bool) → (if b then false else c) ≡ true → (b ≡ false) × (c ≡ true)
both true c e = (cc, cc)
both false c e = (refl, e)

prefixes_equal : (q r bits : List Bool) → length q ≡ length r → is_prefix q bits ≡ true → is_prefix r bits ≡ true → q ≡ r
prefixes_equal [] [] bits e f g = refl
prefixes_equal [] (c ∷ r) bits e f g = absurd (omega arith)
prefixes_equal (b ∷ q) [] bits e f g = absurd (omega arith)
prefixes_equal (b ∷ q) (c ∷ r) [] e f g = cc
prefixes_equal (b ∷ q) (c ∷ r) (a ∷ bits) e f g =
    let left = both (xor b a) (is_prefix q bits) f in
    let right = both (xor c a) (is_prefix r bits) g in
    let same_b = xor-equal b a left.0 in
    let same_c = xor-equal c a right.0 in
    let rest = prefixes_equal q r bits (omega arith) left.1 right.1 in
    cc

abbrev pub is_own : List Bool → List Bool → ℕ
is_own string q = if is_prefix q string then 1 else 0

others_nothing : (level : ℕ) (string q : List Bool) (qs : List (List Bool)) → length q ≡ level → is_prefix q string ≡ true → IsNotIn qs q → AreCandidates level qs
    → AllNothing (is_own string) qs
others_nothing level string q [] e f other are = tt
others_nothing level string q (r ∷ rs) e f other are =
    (nothing (is_prefix r string) refl, others_nothing level string q rs e f other.1 are.2)
  where
    nothing : (b : Bool) → is_prefix r string ≡ b → is_own string r ≡ 0
    nothing true g = absurd (other.0 (prefixes_equal r q string (are.0 ∙ sym e) g f))
    nothing false g = ap (λ b. if b then 1 else 0) g

own_at_most_once : (level : ℕ) (string : List Bool) (qs : List (List Bool)) → AreCandidates level qs → AtMostOne (is_own string) qs
own_at_most_once level string [] are = tt
own_at_most_once level string (q ∷ qs) are = here (is_prefix q string) refl (own_at_most_once level string qs are.2)
  where
    here : (b : Bool) → is_prefix q string ≡ b → AtMostOne (is_own string) qs → AtMostOne (is_own string) (q ∷ qs)
    here true e rest = inr (ap (λ b. if b then 1 else 0) e, others_nothing level string q qs are.0 e are.1 are.2)
    here false e rest = inl (ap (λ b. if b then 1 else 0) e, rest)

same_sigmas : (o : Sums) (a0 b0 a1 b1 a0' b0' a1' b1' : ℕ) → a0 ≡ a0' → b0 ≡ b0' → a1 ≡ a1' → b1 ≡ b1'
    → add (sigma 0 a0 b0 o) (sigma 1 a1 b1 o) ≡ add (sigma 0 a0' b0' o) (sigma 1 a1' b1' o)
same_sigmas o a0 b0 a1 b1 a0' b0' a1' b1' e f g h = cc

-- ---- the values over the candidates

module _ (id : List ℕ) (string : List Bool) (coins : ClientCoins) (i : ℕ) (p : i < length string) (r : length string ≤ length coins.levels) where
  abbrev k : ℕ
  k = (coins_at coins.levels i).k

  by_k : (b : Bool) (x : ℕ) → x ≡ k → (if b then x % modulus else 0) ≡ mul k (if b then 1 else 0)
  by_k true x e = ap (λ y. y % modulus) e ∙ plain k ∙ ring (k ∷ []) (num 0 ⊕ var 0) (var 0 ⊗ num 1) refl refl refl
  by_k false x e = ring (k ∷ []) (num 0) (var 0 ⊗ num 0) refl refl refl

  data_is : (q : List Bool) → length q ≡ i + 1 → (coins_at coins.levels (length q - 1)).k ≡ k
  data_is q e = let place : length q - 1 ≡ i = omega arith in ap (λ j. (coins_at coins.levels j).k) place

  values_d : (qs : List (List Bool)) → AreCandidates (i + 1) qs
      → map (λ q. add (node (share0 id string coins) Zero q).d (node (share1 id string coins) One q).d) qs ≡ map (is_own string) qs
  values_d [] are = refl
  values_d (q ∷ qs) are =
      let law = point_law id string coins q (omega arith) (omega arith) r in
      let rest = values_d qs are.2 in
      let first = law.d in
      cc

  values_e : (qs : List (List Bool)) → AreCandidates (i + 1) qs
      → map (λ q. add (node (share0 id string coins) Zero q).e (node (share1 id string coins) One q).e) qs ≡ map (λ q. mul k (is_own string q)) qs
  values_e [] are = refl
  values_e (q ∷ qs) are =
      let law = point_law id string coins q (omega arith) (omega arith) r in
      let rest = values_e qs are.2 in
      let first = law.e ∙ by_k (is_prefix q string) (coins_at coins.levels (length q - 1)).k (data_is q are.0) in
      cc

  honest : (coin : ℕ → ℕ) (candidates : List (List Bool)) → AreCandidates (i + 1) candidates
      → Passes coin (share0 id string coins) (share1 id string coins) (i + 1) candidates
  honest coin candidates are =
      let s0 = share0 id string coins in
      let s1 = share1 id string coins in
      let c = coins_at coins.levels i in
      let t = joint_correlation coins (i + 1) in
      let place : i + 1 - 1 ≡ i = omega arith in
      let level : 1 + i ≡ i + 1 = omega arith in
      let zero_side = a_of-words0 i (start coins) string coins.levels p r in
      let one_side = a_of-words1 (joint_correlation coins) 1 i (start coins) string coins.levels p r in
      let a0 = ap (λ j. (slice_index_or s0.levels j no_word).a) place ∙ zero_side.0 in
      let b0 = ap (λ j. (slice_index_or s0.levels j no_word).b) place ∙ zero_side.1 in
      let a1 = ap (λ j. (slice_index_or s1.levels j no_word).a) place ∙ one_side.0 ∙ ap (λ l. sub (correction_a (joint_correlation coins l) c.k) c.a0) level in
      let b1 = ap (λ j. (slice_index_or s1.levels j no_word).b) place ∙ one_side.1 ∙ ap (λ l. sub (correction_b (joint_correlation coins l) c.k) c.b0) level in
      same_sigmas (opened_sums coin s0 s1 (i + 1) candidates) _ _ _ _ _ _ _ _ a0 b0 a1 b1
      ∙ honest_passes coin k c.a0 c.b0 (correlation coins.corr0 (i + 1)) (correlation coins.corr1 (i + 1))
      (λ q. (node s0 Zero q).d) (λ q. (node s1 One q).d) (λ q. (node s0 Zero q).e) (λ q. (node s1 One q).e)
      (is_own string) candidates (own_at_most_once (i + 1) string candidates are) (values_d candidates are) (values_e candidates are)

pub honest_law : HonestLaw
honest_law id string coins zero o p r coin candidates are = absurd (omega arith)
honest_law id string coins (suc i) o p r coin candidates are =
    let same : suc i ≡ i + 1 = omega arith in
    subst (λ level. Passes coin (share0 id string coins) (share1 id string coins) level candidates) (sym same)
    (honest id string coins i (omega arith) r coin candidates (subst (λ level. AreCandidates level candidates) same are))
