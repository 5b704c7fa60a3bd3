-- Prefixes of one length, their children, and filters over them.
use Rattle.std.proofs.Common.{◌≡◌, ℕ, zero, suc, ◌≤◌, Bool, true, false, cond, List, [], ◌∷◌, ◌++◌, length, refl, sym, ◌∙◌, ap, subst, arith, length-append}
use Rattle.std.specs.Prelude.{map, if◌then◌else◌, nat_le}
use Rattle.std.specs.List.{filter}
use Rattle.std.proofs.lemmas.List.Sums.{sum_by-cons}
use Rattle.definitions.specs.Prefixes.{xor, is_prefix, AreCandidates, IsNotIn}
use Rattle.walk_definitions.specs.Walk.{children, survivors}
use Rattle.walk_definitions.specs.Heavy.{count, counted}

-- all strings of so many bits, ascending
abbrev pub all_of : ℕ → List (List Bool)
all_of zero = [] ∷ []
all_of (suc level) = map (λ q. false ∷ q) (all_of level) ++ map (λ q. true ∷ q) (all_of level)

abbrev pub both_children : List (List Bool) → List (List Bool)
both_children [] = []
both_children (q ∷ qs) = (q ++ false ∷ []) ∷ (q ++ true ∷ []) ∷ both_children qs

pub children-counted : (strings qs : List (List Bool)) → children (counted strings qs) ≡ both_children qs
children-counted strings [] = refl
children-counted strings (q ∷ qs) = ap (λ r. (q ++ false ∷ []) ∷ (q ++ true ∷ []) ∷ r) (children-counted strings qs)

both_children-append : (qs rs : List (List Bool)) → both_children (qs ++ rs) ≡ both_children qs ++ both_children rs
both_children-append [] rs = refl
both_children-append (q ∷ qs) rs = ap (λ r. (q ++ false ∷ []) ∷ (q ++ true ∷ []) ∷ r) (both_children-append qs rs)

both_children-map : (b : Bool) (qs : List (List Bool)) → both_children (map (λ q. b ∷ q) qs) ≡ map (λ q. b ∷ q) (both_children qs)
both_children-map b [] = refl
both_children-map b (q ∷ qs) = ap (λ r. (b ∷ q ++ false ∷ []) ∷ (b ∷ q ++ true ∷ []) ∷ r) (both_children-map b qs)

-- the strings of one bit more are the children
pub all_of-more : (level : ℕ) → all_of (suc level) ≡ both_children (all_of level)
all_of-more zero = refl
all_of-more (suc level) =
    let more = all_of-more level in
    ap (λ r. map (λ q. false ∷ q) r ++ map (λ q. true ∷ q) r) more
    ∙ sym (both_children-append (map (λ q. false ∷ q) (all_of level)) (map (λ q. true ∷ q) (all_of level))
    ∙ ap (λ r. r ++ both_children (map (λ q. true ∷ q) (all_of level))) (both_children-map false (all_of level))
    ∙ ap (λ r. map (λ q. false ∷ q) (both_children (all_of level)) ++ r) (both_children-map true (all_of level)))

-- ---- a string that begins with a child begins with the parent

is_prefix-child : (q : List Bool) (b : Bool) (s : List Bool) → is_prefix (q ++ b ∷ []) s ≡ true → is_prefix q s ≡ true
is_prefix-child [] b s e = refl
is_prefix-child (c ∷ q) b [] e = e
is_prefix-child (c ∷ q) b (a ∷ s) e = at (xor c a) (is_prefix-child q b s) e
  where
    at : (x : Bool) → (is_prefix (q ++ b ∷ []) s ≡ true → is_prefix q s ≡ true)
        → (if x then false else is_prefix (q ++ b ∷ []) s) ≡ true → (if x then false else is_prefix q s) ≡ true
    at true more e = e
    at false more e = more e

one_of : (x y : Bool) → (x ≡ true → y ≡ true) → cond x 1 0 ≤ cond y 1 0
one_of true true h = omega arith
one_of true false h = let e = h refl in cc
one_of false true h = omega arith
one_of false false h = omega arith

pub count-child : (strings : List (List Bool)) (q : List Bool) (b : Bool) → count strings (q ++ b ∷ []) ≤ count strings q
count-child [] q b = omega arith
count-child (s ∷ ss) q b =
    let one = one_of (is_prefix (q ++ b ∷ []) s) (is_prefix q s) (is_prefix-child q b s) in
    let rest = count-child ss q b in
    let left = sum_by-cons (λ x. cond (is_prefix (q ++ b ∷ []) x) 1 0) s ss in
    let right = sum_by-cons (λ x. cond (is_prefix q x) 1 0) s ss in
    omega (arith, one, rest, left, right)

-- ---- filters

module _ (p : List Bool → Bool) (down : (q : List Bool) (b : Bool) → p q ≡ false → p (q ++ b ∷ []) ≡ false) where
  pub filter-children : (qs : List (List Bool)) → filter p (both_children qs) ≡ filter p (both_children (filter p qs))
  filter-children [] = refl
  filter-children (q ∷ qs) = at (p q) refl (filter-children qs)
    where
      at : (b : Bool) → p q ≡ b → filter p (both_children qs) ≡ filter p (both_children (filter p qs))
          → filter p (both_children (q ∷ qs)) ≡ filter p (both_children (filter p (q ∷ qs)))
      at true e rest =
          let c0 = q ++ false ∷ [] in let c1 = q ++ true ∷ [] in
          ap (λ r. cond (p c0) (c0 ∷ cond (p c1) (c1 ∷ r) r) (cond (p c1) (c1 ∷ r) r)) rest
          ∙ ap (λ b. filter p (both_children (cond b (q ∷ filter p qs) (filter p qs)))) (sym e)
      at false e rest =
          let c0 = q ++ false ∷ [] in let c1 = q ++ true ∷ [] in
          ap (λ b. cond b (c0 ∷ cond (p c1) (c1 ∷ filter p (both_children qs)) (filter p (both_children qs)))
          (cond (p c1) (c1 ∷ filter p (both_children qs)) (filter p (both_children qs)))) (down q false e)
          ∙ ap (λ b. cond b (c1 ∷ filter p (both_children qs)) (filter p (both_children qs))) (down q true e)
          ∙ rest
          ∙ ap (λ b. filter p (both_children (cond b (q ∷ filter p qs) (filter p qs)))) (sym e)

-- ---- different prefixes of one length

snoc-first : (q r : List Bool) (b c : Bool) → q ++ b ∷ [] ≡ r ++ c ∷ [] → q ≡ r
snoc-first [] [] b c e = refl
snoc-first [] (y ∷ r) b c e = absurd (omega (arith, ap length e, length-append r (c ∷ [])))
snoc-first (x ∷ q) [] b c e = absurd (omega (arith, ap length e, length-append q (b ∷ [])))
snoc-first (x ∷ q) (y ∷ r) b c e =
    let tails : q ++ b ∷ [] ≡ r ++ c ∷ [] = cc in
    let heads : x ≡ y = cc in
    let rest = snoc-first q r b c tails in
    cc

snoc-last : (q : List Bool) (b c : Bool) → q ++ b ∷ [] ≡ q ++ c ∷ [] → b ≡ c
snoc-last [] b c e = cc
snoc-last (x ∷ q) b c e = snoc-last q b c (cc)

not_in-children : (qs : List (List Bool)) (q : List Bool) (b : Bool) → IsNotIn qs q → IsNotIn (both_children qs) (q ++ b ∷ [])
not_in-children [] q b other = tt
not_in-children (r ∷ rs) q b other =
    ((λ e. other.0 (snoc-first r q false b e)), ((λ e. other.0 (snoc-first r q true b e)), not_in-children rs q b other.1))

pub are-children : (level : ℕ) (qs : List (List Bool)) → AreCandidates level qs → AreCandidates (suc level) (both_children qs)
are-children level [] are = tt
are-children level (q ∷ qs) are =
    let long : (b : Bool) → length (q ++ b ∷ []) ≡ suc level = λ b. omega (arith, length-append q (b ∷ []), are.0) in (
      long false,
      (λ e. true_is_not_false (snoc-last q true false e), not_in-children qs q false are.1),
      (long true, not_in-children qs q true are.1, are-children level qs are.2),
    )
  where
    true_is_not_false : true ≡ false → ⊥
    true_is_not_false e = cc

not_in-filter : (p : List Bool → Bool) (qs : List (List Bool)) (q : List Bool) → IsNotIn qs q → IsNotIn (filter p qs) q
not_in-filter p [] q other = tt
not_in-filter p (r ∷ rs) q other = at (p r) (not_in-filter p rs q other.1)
  where
    at : (b : Bool) → IsNotIn (filter p rs) q → IsNotIn (cond b (r ∷ filter p rs) (filter p rs)) q
    at true rest = (other.0, rest)
    at false rest = rest

pub are-filter : (p : List Bool → Bool) (level : ℕ) (qs : List (List Bool)) → AreCandidates level qs → AreCandidates level (filter p qs)
are-filter p level [] are = tt
are-filter p level (q ∷ qs) are = at (p q) (are-filter p level qs are.2)
  where
    at : (b : Bool) → AreCandidates level (filter p qs) → AreCandidates level (cond b (q ∷ filter p qs) (filter p qs))
    at true rest = (are.0, not_in-filter p qs q are.1, rest)
    at false rest = rest

pub are-all_of : (level : ℕ) → AreCandidates level (all_of level)
are-all_of zero = (refl, tt, tt)
are-all_of (suc level) = subst (AreCandidates (suc level)) (sym (all_of-more level)) (are-children level (all_of level) (are-all_of level))

-- ---- survivors are a filter

pub survivors-filter : (threshold : ℕ) (f : List Bool → ℕ) (qs : List (List Bool))
    → survivors threshold qs (map f qs) ≡ map (λ q. record { prefix = q; count = f q }) (filter (λ q. nat_le threshold (f q)) qs)
survivors-filter threshold f [] = refl
survivors-filter threshold f (q ∷ qs) = at (nat_le threshold (f q)) (survivors-filter threshold f qs)
  where
    at : (b : Bool) → survivors threshold qs (map f qs) ≡ map (λ q. record { prefix = q; count = f q }) (filter (λ q. nat_le threshold (f q)) qs)
        → (if b then record { prefix = q; count = f q } ∷ survivors threshold qs (map f qs) else survivors threshold qs (map f qs))
        ≡ map (λ q. record { prefix = q; count = f q }) (cond b (q ∷ filter (λ q. nat_le threshold (f q)) qs) (filter (λ q. nat_le threshold (f q)) qs))
    at true rest = ap (λ r. record { prefix = q; count = f q } ∷ r) rest
    at false rest = rest
