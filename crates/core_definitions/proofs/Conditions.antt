-- What a phase's plan asks of its places and its candidates is kept.
use Rattle.std.proofs.Common.{◌≡◌, ℕ, zero, suc, ◌+◌, ◌*◌, ◌<◌, ◌≤◌, Bool, true, false, List, [], ◌∷◌, ◌++◌, length, refl, sym, ◌∙◌, ap, subst, arith}
use Rattle.std.specs.Prelude.{if◌then◌else◌, map, nat_le}
use Rattle.std.specs.List.{filter, AllByRecursion}
use Rattle.std.proofs.lemmas.Bool.{false≢true}
use Rattle.definitions.specs.Sketch.{Sums}
use Rattle.definitions.specs.Prefixes.{AreCandidates}
use Rattle.walk_definitions.specs.Reports.{Report}
use Rattle.walk_definitions.specs.Walk.{Heavy, survivors, children, first_candidates, goes_on}
use Rattle.walk_definitions.proofs.Prefixes.{both_children, are-children, are-filter, survivors-filter}
use Rattle.core_definitions.specs.Phase.{ArePlaces}
use Rattle.core_definitions.specs.System.{places, passes_by, passed_by}
use Rattle.core_definitions.proofs.Plan.{true-le}

-- ---- places

places-above : (low at count : ℕ) → low < at → AllByRecursion (λ j. low < j) (places at count)
places-above low at zero p = tt
places-above low at (suc count) p = (p, places-above low (at + 1) count (omega (arith, p)))

pub places-are : (size at count : ℕ) → at + count ≤ size → ArePlaces size (places at count)
places-are size at zero p = tt
places-are size at (suc count) p =
    (omega (arith, p), places-above at (at + 1) count (omega arith), places-are size (at + 1) count (omega (arith, p)))

module _ (whole : List Report) (level : ℕ) where
  passed-above : (low : ℕ) (is : List ℕ) (ss ts : List Sums) → AllByRecursion (λ j. low < j) is
      → AllByRecursion (λ j. low < j) (passed_by whole level is ss ts)
  passed-above low [] ss ts h = tt
  passed-above low (i ∷ is) [] ts h = tt
  passed-above low (i ∷ is) (s ∷ ss) [] h = tt
  passed-above low (i ∷ is) (s ∷ ss) (t ∷ ts) h = at (passes_by whole level i s t) (passed-above low is ss ts h.1)
    where
      at : (b : Bool) → AllByRecursion (λ j. low < j) (passed_by whole level is ss ts)
          → AllByRecursion (λ j. low < j) (if b then i ∷ passed_by whole level is ss ts else passed_by whole level is ss ts)
      at true rest = (h.0, rest)
      at false rest = rest

  pub passed-are : (size : ℕ) (is : List ℕ) (ss ts : List Sums) → ArePlaces size is → ArePlaces size (passed_by whole level is ss ts)
  passed-are size [] ss ts h = tt
  passed-are size (i ∷ is) [] ts h = tt
  passed-are size (i ∷ is) (s ∷ ss) [] h = tt
  passed-are size (i ∷ is) (s ∷ ss) (t ∷ ts) h =
      at (passes_by whole level i s t) (passed-above i is ss ts h.1) (passed-are size is ss ts h.2)
    where
      at : (b : Bool) → AllByRecursion (λ j. i < j) (passed_by whole level is ss ts) → ArePlaces size (passed_by whole level is ss ts)
          → ArePlaces size (if b then i ∷ passed_by whole level is ss ts else passed_by whole level is ss ts)
      at true above rest = (h.0, above, rest)
      at false above rest = rest

-- ---- candidates

pub first-are : AreCandidates 1 first_candidates
first-are = (refl, ((λ e. apart e), tt), (refl, tt, tt))
  where
    apart : true ∷ [] ≡ false ∷ [] → ⊥
    apart e = cc

counted-both : (f : List Bool → ℕ) (qs : List (List Bool)) → children (map (λ q. record { prefix = q; count = f q }) qs) ≡ both_children qs
counted-both f [] = refl
counted-both f (q ∷ qs) = ap (λ r. (q ++ false ∷ []) ∷ (q ++ true ∷ []) ∷ r) (counted-both f qs)

-- the children of different candidates' survivors differ, and have one bit more
pub children-are : (t level : ℕ) (f : List Bool → ℕ) (qs : List (List Bool)) → AreCandidates level qs
    → AreCandidates (suc level) (children (survivors t qs (map f qs)))
children-are t level f qs are =
    let kept = filter (λ q. nat_le t (f q)) qs in
    subst (AreCandidates (suc level)) (sym (ap children (survivors-filter t f qs) ∙ counted-both f kept))
    (are-children level kept (are-filter (λ q. nat_le t (f q)) level qs are))

children-twice : (hs : List Heavy) → length (children hs) ≡ 2 * length hs
children-twice [] = refl
children-twice (h ∷ hs) = omega (arith, children-twice hs)

-- where a level goes on, its children are at most as many as the cap
pub children-few : (cap : ℕ) (hs : List Heavy) → goes_on cap hs ≡ true → length (children hs) ≤ cap
children-few cap [] e = absurd (false≢true e)
children-few cap (h ∷ hs) e = omega (arith, children-twice (h ∷ hs), true-le (2 * length (h ∷ hs)) cap e)
