-- A total of 1 over a list is at one place alone.
use Rattle.std.proofs.Common.{◌≡◌, ℕ, zero, suc, ◌+◌, ◌<◌, ◌==◌, Bool, true, false, cond, List, [], ◌∷◌, sum_by, refl, sym, ap, ◌∙◌, arith, eqb-true}
use Rattle.std.proofs.lemmas.List.Sums.{sum_by-cons}
use mathlib.Core.Option.{some, some-injective}
use lib.ListN.{get_elem?}
use Rattle.list_totals.proofs.Totals.{part_of}

-- who counts 1 has the property, and else counts 0
pub is_counted : (a k : ℕ) → 0 < cond (a == k) 1 0 → a ≡ k
is_counted a k = by_test (a == k) refl
  where
    by_test : (q : Bool) → (a == k) ≡ q → 0 < cond q 1 0 → a ≡ k
    by_test true is h = eqb-true a k is
    by_test false is h = absurd (omega (arith, h))

module _ {X : Type 0} where
  -- the one place where f is not 0; there it is t
  pub record OnePlace (t : ℕ) (f : X → ℕ) (xs : List X) : Type 0 where
    pub place : ℕ
    pub value : X
    pub there : get_elem? xs place ≡ some value
    pub is : f value ≡ t
    pub alone : (j : ℕ) (y : X) → get_elem? xs j ≡ some y → 0 < f y → j ≡ place

  -- where f is t or 0 at each place, and t in all
  pub whole_place : (t : ℕ) (f : X → ℕ) (xs : List X) → 0 < t → ((j : ℕ) (y : X) → get_elem? xs j ≡ some y → 0 < f y → f y ≡ t) → sum_by f xs ≡ t → OnePlace t f xs
  whole_place t f [] some_t each total = absurd (omega (arith, total, some_t))
  whole_place t f (x ∷ xs) some_t each total = by_first (f x) refl (λ left. whole_place t f xs some_t (λ j y at. each (suc j) y at) left)
    where
      split : f x + sum_by f xs ≡ t
      split = sym (sum_by-cons f x xs) ∙ total

      first_alone : f x ≡ t → (j : ℕ) (y : X) → get_elem? (x ∷ xs) j ≡ some y → 0 < f y → j ≡ 0
      first_alone is zero y there some_time = refl
      first_alone is (suc j) y there some_time = absurd (omega (arith, is, split, some_time, part_of f xs j y there))

      later_alone : f x ≡ 0 → (rest : OnePlace t f xs) → (j : ℕ) (y : X) → get_elem? (x ∷ xs) j ≡ some y → 0 < f y → j ≡ suc rest.place
      later_alone is rest zero y there some_time = let e : f x ≡ f y = ap f (some-injective _ _ there) in absurd (omega (arith, is, e, some_time))
      later_alone is rest (suc j) y there some_time = ap suc (rest.alone j y there some_time)

      by_first : (k : ℕ) → f x ≡ k → (sum_by f xs ≡ t → OnePlace t f xs) → OnePlace t f (x ∷ xs)
      by_first zero none later =
          let rest = later (omega (arith, split, none)) in
          record { place = suc rest.place; value = rest.value; there = rest.there; is = rest.is; alone = later_alone none rest }
      by_first (suc k) some_time later =
          let all : f x ≡ t = each 0 x refl (omega (arith, some_time)) in
          record { place = 0; value = x; there = refl; is = all; alone = first_alone all }

  pub one_place : (f : X → ℕ) (xs : List X) → sum_by f xs ≡ 1 → OnePlace 1 f xs
  one_place f xs total = whole_place 1 f xs (omega arith) (λ j y at some_time. omega (arith, some_time, total, part_of f xs j y at)) total

  -- there is one value at a place
  pub same_value : (xs : List X) (i j : ℕ) (v w : X) → i ≡ j → get_elem? xs i ≡ some v → get_elem? xs j ≡ some w → v ≡ w
  same_value xs i j v w same at there = some-injective _ _ (sym at ∙ ap (get_elem? xs) same ∙ there)
