-- The survivors of different candidates, and their children.
use Rattle.std.proofs.Common.{◌≡◌, ℕ, zero, suc, ◌+◌, ◌*◌, ◌<◌, ◌≤◌, ◌≢◌, Bool, true, false, List, [], ◌∷◌, ◌++◌, length, drop, get_or, refl, sym, ◌∙◌, ap, subst, add-one, arith}
use Rattle.std.specs.Prelude.{map, if◌then◌else◌, nat_le}
use Rattle.std.specs.List.{AllByRecursion, All}
use Rattle.std.proofs.lemmas.List.Elements.{All-from_recursion}
use Rattle.definitions.specs.Prefixes.{AreCandidates, IsNotIn}
use Rattle.walk_definitions.specs.Walk.{Heavy, survivors, children}
use Rattle.walk_definitions.proofs.Prefixes.{both_children, are-children}
use Rattle.frontier_walk.specs.Frontiers.{IsFrontier}

-- ---- lengths

pub survivors-few : (t : ℕ) (qs : List (List Bool)) (ns : List ℕ) → length (survivors t qs ns) ≤ length qs
survivors-few t [] ns = omega arith
survivors-few t (q ∷ qs) [] = omega arith
survivors-few t (q ∷ qs) (n ∷ ns) = at (nat_le t n) (survivors-few t qs ns)
  where
    at : (b : Bool) → length (survivors t qs ns) ≤ length qs
        → length (if b then record { prefix = q; count = n } ∷ survivors t qs ns else survivors t qs ns) ≤ length (q ∷ qs)
    at true h = omega arith
    at false h = omega arith

pub children-twice : (hs : List Heavy) → length (children hs) ≡ 2 * length hs
children-twice [] = refl
children-twice (h ∷ hs) = let rest = children-twice hs in omega arith

-- the survivors from a place on, by the total there
pub survivors-drop : (t i : ℕ) (qs : List (List Bool)) (ns : List ℕ) (n : ℕ) → i < length ns → length ns ≡ length qs → n ≡ get_or ns i 0
    → length (survivors t (drop i qs) (drop i ns)) ≡ (if nat_le t n then 1 else 0) + length (survivors t (drop (i + 1) qs) (drop (i + 1) ns))
survivors-drop t i [] ns n h e is = absurd (omega arith)
survivors-drop t i (q ∷ qs) [] n h e is = absurd (omega arith)
survivors-drop t zero (q ∷ qs) (m ∷ ns) n h e is = ap (λ k. length (survivors t (q ∷ qs) (k ∷ ns))) (sym is) ∙ at (nat_le t n)
  where
    at : (b : Bool) → length (if b then record { prefix = q; count = n } ∷ survivors t qs ns else survivors t qs ns)
        ≡ (if b then 1 else 0) + length (survivors t qs ns)
    at true = omega arith
    at false = omega arith
survivors-drop t (suc i) (q ∷ qs) (m ∷ ns) n h e is =
    survivors-drop t i qs ns n (omega arith) (omega arith) is
    ∙ ap (λ k. (if nat_le t n then 1 else 0) + length (survivors t (drop k qs) (drop k ns))) (add-one i)
    ∙ ap (λ k. (if nat_le t n then 1 else 0) + length (survivors t (drop k (q ∷ qs)) (drop k (m ∷ ns)))) (sym (add-one (suc i)))

-- ---- the prefixes

abbrev prefixes : List Heavy → List (List Bool)
prefixes hs = map (λ h. h.prefix) hs

not_in-survivors : (t : ℕ) (qs : List (List Bool)) (ns : List ℕ) (q : List Bool) → IsNotIn qs q → IsNotIn (prefixes (survivors t qs ns)) q
not_in-survivors t [] ns q other = tt
not_in-survivors t (r ∷ rs) [] q other = tt
not_in-survivors t (r ∷ rs) (n ∷ ns) q other = at (nat_le t n) (not_in-survivors t rs ns q other.1)
  where
    at : (b : Bool) → IsNotIn (prefixes (survivors t rs ns)) q
        → IsNotIn (prefixes (if b then record { prefix = r; count = n } ∷ survivors t rs ns else survivors t rs ns)) q
    at true rest = (other.0, rest)
    at false rest = rest

are-survivors : (t level : ℕ) (qs : List (List Bool)) (ns : List ℕ) → AreCandidates level qs → AreCandidates level (prefixes (survivors t qs ns))
are-survivors t level [] ns are = tt
are-survivors t level (q ∷ qs) [] are = tt
are-survivors t level (q ∷ qs) (n ∷ ns) are = at (nat_le t n) (are-survivors t level qs ns are.2)
  where
    at : (b : Bool) → AreCandidates level (prefixes (survivors t qs ns))
        → AreCandidates level (prefixes (if b then record { prefix = q; count = n } ∷ survivors t qs ns else survivors t qs ns))
    at true rest = (are.0, not_in-survivors t qs ns q are.1, rest)
    at false rest = rest

children-both : (hs : List Heavy) → children hs ≡ both_children (prefixes hs)
children-both [] = refl
children-both (h ∷ hs) = ap (λ r. (h.prefix ++ false ∷ []) ∷ (h.prefix ++ true ∷ []) ∷ r) (children-both hs)

short : (level most : ℕ) (hs : List Heavy) → level < most → AreCandidates level (prefixes hs) → AllByRecursion (λ h. length h.prefix < most) hs
short level most [] below are = tt
short level most (h ∷ hs) below are = (omega (arith, are.0), short level most hs below are.2)

-- candidates have the level's number of bits
pub are-long : (level : ℕ) (qs : List (List Bool)) → AreCandidates level qs → AllByRecursion (λ q. length q ≡ level) qs
are-long level [] are = tt
are-long level (q ∷ qs) are = (are.0, are-long level qs are.2)

pub are-all-long : (level : ℕ) (qs : List (List Bool)) → AreCandidates level qs → All (λ q. length q ≡ level) qs
are-all-long level qs are = All-from_recursion (λ q. length q ≡ level) qs (are-long level qs are)

module _ (most_bits bits cap level t : ℕ) (qs : List (List Bool)) (ns : List ℕ) (is : IsFrontier most_bits bits cap level qs) (before : level ≢ bits) where
  -- before the last level there is room for one more bit
  pub has-room : All (λ h. length h.prefix < most_bits) (survivors t qs ns)
  has-room =
      All-from_recursion (λ h. length h.prefix < most_bits) (survivors t qs ns)
      (short level most_bits (survivors t qs ns) (omega (arith, is.within, is.few_bits, before)) (are-survivors t level qs ns is.different))

  -- the children of few enough survivors are a frontier
  pub is-following : 2 * length (survivors t qs ns) ≤ cap → IsFrontier most_bits bits cap (level + 1) (children (survivors t qs ns))
  is-following enough = record {
    some_bits = is.some_bits;
    few_bits = is.few_bits;
    some_cap = is.some_cap;
    small_cap = is.small_cap;
    begun = omega arith;
    within = omega (arith, is.within, before);
    few = omega (arith, children-twice (survivors t qs ns));
    different =
        subst (λ l. AreCandidates l (children (survivors t qs ns))) (sym (add-one level))
        (subst (AreCandidates (suc level)) (sym (children-both (survivors t qs ns)))
        (are-children level (prefixes (survivors t qs ns)) (are-survivors t level qs ns is.different)));
  }

-- what the loop that counts survivors cites
pub ruleset survivor_steps = (survivors-drop)

-- what `candidates` cites
pub ruleset candidate_lengths = (are-all-long)
