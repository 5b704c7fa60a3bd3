-- The heavy prefixes do not depend on the order of the strings.
use Rattle.std.proofs.Common.{◌≡◌, ℕ, ◌≤◌, ◌⊎◌, inl, inr, Bool, true, false, not, cond, List, [], ◌∷◌, take, refl, sym, ◌∙◌, ap, arith}
use Rattle.std.specs.Prelude.{map, nat_le, ◌&&◌}
use Rattle.std.specs.List.{filter, count_by}
use Rattle.std.specs.List.Sorted.{IsPermutation}
use Rattle.std.proofs.lemmas.List.Sums.{sum_by-cons}
use Rattle.std.proofs.lemmas.List.Sorted.{sum_by-IsPermutation, IsPermutation-map, IsPermutation-sym}
use Rattle.definitions.specs.Prefixes.{is_prefix}
use Rattle.walk_definitions.specs.Ascending.{bits_before, ascending}
use Rattle.walk_definitions.specs.Heavy.{count, counted, heavy}
use Rattle.walk_definitions.specs.Laws.{OrderLaw}
use Rattle.walk_definitions.proofs.Order.{IsOrder, Member, lists_ordered, same_ascending}
use Rattle.walk_definitions.proofs.Ascent.{same, same-refl, same-is}

pub bits_ordered : IsOrder (λ a b. not a && b)
bits_ordered = record { self = self; through = through; either = either }
  where
    self : (x : Bool) → not x && x ≡ false
    self true = refl
    self false = refl

    through : (x y z : Bool) → not x && y ≡ true → not y && z ≡ true → not x && z ≡ true
    through true y z e f = e
    through false true z e f = absurd (cc)
    through false false z e f = absurd (cc)

    either : (x y : Bool) → (not x && y ≡ true) ⊎ ((x ≡ y) ⊎ (not y && x ≡ true))
    either true true = inr (inl refl)
    either true false = inr (inr refl)
    either false true = inl refl
    either false false = inr (inl refl)

-- ---- how often a list of bits stands in a list

abbrev times : List Bool → List (List Bool) → ℕ
times z xs = count_by (λ x. same x z) xs

member-times : (z : List Bool) (xs : List (List Bool)) → Member z xs → 1 ≤ times z xs
member-times z [] m = absurd m
member-times z (x ∷ xs) (inl e) =
    let here : cond (same x z) 1 0 ≡ 1 = ap {B = ℕ} (λ y. cond (same y z) 1 0) e ∙ ap {B = ℕ} (λ b. cond b 1 0) (same-refl z) in
    omega (arith, sum_by-cons (λ y. cond (same y z) 1 0) x xs, here)
member-times z (x ∷ xs) (inr m) =
    omega (arith, sum_by-cons (λ y. cond (same y z) 1 0) x xs, member-times z xs m)

times-member : (z : List Bool) (xs : List (List Bool)) → 1 ≤ times z xs → Member z xs
times-member z [] h = absurd (omega arith)
times-member z (x ∷ xs) h = at (same x z) refl (times-member z xs)
  where
    at : (b : Bool) → same x z ≡ b → (1 ≤ times z xs → Member z xs) → Member z (x ∷ xs)
    at true e more = inl (same-is x z e)
    at false e more =
        let here : cond (same x z) 1 0 ≡ 0 = ap {B = ℕ} (λ b. cond b 1 0) e in
        inr (more (omega (arith, h, sum_by-cons (λ y. cond (same y z) 1 0) x xs, here)))

moved : (z : List Bool) (xs ys : List (List Bool)) → IsPermutation xs ys → Member z xs → Member z ys
moved z xs ys p m =
    times-member z ys (omega (arith, member-times z xs m, sum_by-IsPermutation (λ x. cond (same x z) 1 0) xs ys p))

-- ---- the heavy prefixes

filter-agree : {X : Type 0} (p q : X → Bool) → ((x : X) → p x ≡ q x) → (xs : List X) → filter p xs ≡ filter q xs
filter-agree p q h [] = refl
filter-agree p q h (x ∷ xs) =
    ap (λ b. cond b (x ∷ filter p xs) (filter p xs)) (h x) ∙ ap (λ ys. cond (q x) (x ∷ ys) ys) (filter-agree p q h xs)

counted-agree : (strings others : List (List Bool)) → ((q : List Bool) → count strings q ≡ count others q) → (qs : List (List Bool))
    → counted strings qs ≡ counted others qs
counted-agree strings others h [] = refl
counted-agree strings others h (q ∷ qs) =
    ap (λ n. record { prefix = q; count = n } ∷ counted strings qs) (h q)
    ∙ ap (λ rest. record { prefix = q; count = count others q } ∷ rest) (counted-agree strings others h qs)

pub order_law : OrderLaw
unfolding heavy
order_law level threshold strings others p =
    let counts : (q : List Bool) → count strings q ≡ count others q =
    λ q. sym (sum_by-IsPermutation (λ s. cond (is_prefix q s) 1 0) strings others p) in
    let fronts = IsPermutation-map (take level) strings others p in
    let risen : ascending bits_before (map (take level) strings) ≡ ascending bits_before (map (take level) others) =
    same_ascending bits_before (lists_ordered (λ a b. not a && b) bits_ordered) (map (take level) strings) (map (take level) others)
    (λ z m. moved z _ _ fronts m) (λ z m. moved z _ _ (IsPermutation-sym _ _ fronts) m) in
    ap (λ qs. counted strings (filter (λ q. nat_le threshold (count strings q)) qs)) risen
    ∙ ap (counted strings) (filter-agree (λ q. nat_le threshold (count strings q)) (λ q. nat_le threshold (count others q))
    (λ q. ap (nat_le threshold) (counts q)) (ascending bits_before (map (take level) others)))
    ∙ counted-agree strings others counts _
