-- Totals over a list: what one place changes, what two places have, what a bound at each place says.
use Rattle.std.proofs.Common.{◌≡◌, ◌≢◌, ℕ, zero, suc, ◌+◌, ◌<◌, ◌≤◌, ◌==◌, cond, List, [], ◌∷◌, ◌++◌, set, sum_by, refl, sym, ap, subst, ⊎_elim, arith}
use Rattle.atomic_table.proofs.Lists.{at_set, at_snoc}
use Rattle.std.proofs.lemmas.List.Sums.{sum_by-cons}
use mathlib.Core.Option.{some, some-ne-none, some-injective}
use lib.ListN.{get_elem?}

module _ {X : Type 0} where
  pub total_set : (f : X → ℕ) (xs : List X) (by : ℕ) (v w : X) → get_elem? xs by ≡ some v → sum_by f (set xs by w) + f v ≡ sum_by f xs + f w
  total_set f [] by v w at = absurd (some-ne-none v (sym at))
  total_set f (u ∷ us) zero v w at = let e : f u ≡ f v = ap f (some-injective _ _ at) in omega (arith, sum_by-cons f w us, sum_by-cons f u us, e)
  total_set f (u ∷ us) (suc by) v w at = omega (arith, total_set f us by v w at, sum_by-cons f u us, sum_by-cons f u (set us by w))

  pub part_of : (f : X → ℕ) (xs : List X) (by : ℕ) (v : X) → get_elem? xs by ≡ some v → f v ≤ sum_by f xs
  part_of f [] by v at = absurd (some-ne-none v (sym at))
  part_of f (u ∷ us) zero v at = let e : f u ≡ f v = ap f (some-injective _ _ at) in omega (arith, sum_by-cons f u us, e)
  part_of f (u ∷ us) (suc by) v at = omega (arith, part_of f us by v at, sum_by-cons f u us)

  pub two_of : (f : X → ℕ) (xs : List X) (by j : ℕ) (v u : X) → get_elem? xs by ≡ some v → get_elem? xs j ≡ some u → j ≢ by → f v + f u ≤ sum_by f xs
  two_of f [] by j v u at there apart = absurd (some-ne-none v (sym at))
  two_of f (x ∷ xs) zero zero v u at there apart = absurd (apart refl)
  two_of f (x ∷ xs) zero (suc j) v u at there apart = let e : f x ≡ f v = ap f (some-injective _ _ at) in omega (arith, e, part_of f xs j u there, sum_by-cons f x xs)
  two_of f (x ∷ xs) (suc by) zero v u at there apart = let e : f x ≡ f u = ap f (some-injective _ _ there) in omega (arith, e, part_of f xs by v at, sum_by-cons f x xs)
  two_of f (x ∷ xs) (suc by) (suc j) v u at there apart = omega (arith, two_of f xs by j v u at there (λ e. apart (ap suc e)), sum_by-cons f x xs)

  -- what is at most another at each place is at most it in all
  pub within : (f g : X → ℕ) (xs : List X) → ((by : ℕ) (v : X) → get_elem? xs by ≡ some v → f v ≤ g v) → sum_by f xs ≤ sum_by g xs
  within f g [] h = omega arith
  within f g (u ∷ us) h = omega (arith, within f g us (λ by v at. h (suc by) v at), h 0 u refl, sum_by-cons f u us, sum_by-cons g u us)

  -- a change that counts the same keeps the total
  pub kept : (f : X → ℕ) (xs : List X) (by : ℕ) (v w : X) → get_elem? xs by ≡ some v → f w ≡ f v → sum_by f (set xs by w) ≡ sum_by f xs
  kept f xs by v w at e = omega (arith, total_set f xs by v w at, e)

  -- a fact at each place still holds at each after a change, and after a push
  pub fit_set : (F : X → Type 0) (xs : List X) (by : ℕ) (w : X) → F w → ((j : ℕ) (u : X) → j ≢ by → get_elem? xs j ≡ some u → F u) → (j : ℕ) (u : X) → get_elem? (set xs by w) j ≡ some u → F u
  fit_set F xs by w here there j u e =
      ⊎_elim
      (λ (x : (j ≡ by) × (w ≡ u)). subst F x.1 here)
      (λ (x : (j ≢ by) × (get_elem? xs j ≡ some u)). there j u x.0 x.1)
      (at_set xs by j w u e)

  pub fit_push : (F : X → Type 0) (xs : List X) (w : X) → F w → ((j : ℕ) (u : X) → get_elem? xs j ≡ some u → F u) → (j : ℕ) (u : X) → get_elem? (xs ++ w ∷ []) j ≡ some u → F u
  fit_push F xs w here there j u e = ⊎_elim (λ was. there j u was) (λ (same : w ≡ u). subst F same here) (at_snoc xs w u j e)

  -- without size there is nothing of a total that needs size
  nothing : (size f : X → ℕ) (us : List X) → sum_by size us ≡ 0 → ((j : ℕ) (w : X) → get_elem? us j ≡ some w → size w ≡ 0 → f w ≡ 0) → sum_by f us ≡ 0
  nothing size f [] none idle = refl
  nothing size f (w ∷ ws) none idle =
      let c = sum_by-cons size w ws in
      omega (arith, sum_by-cons f w ws, idle 0 w refl (omega (arith, c, none)), nothing size f ws (omega (arith, c, none)) (λ j x e. idle (suc j) x e))

  -- who has the whole size has the whole of each total that needs size
  pub whole : (size f : X → ℕ) (xs : List X) (by : ℕ) (v : X) → get_elem? xs by ≡ some v → sum_by size xs ≤ size v
      → ((j : ℕ) (u : X) → get_elem? xs j ≡ some u → size u ≡ 0 → f u ≡ 0) → sum_by f xs ≡ f v
  whole size f [] by v at all idle = absurd (some-ne-none v (sym at))
  whole size f (u ∷ us) zero v at all idle =
      let same : u ≡ v = some-injective _ _ at in
      let c = sum_by-cons size u us in
      omega (arith, sum_by-cons f u us, ap f same, nothing size f us (omega (arith, ap size same, all, c)) (λ j w e. idle (suc j) w e))
  whole size f (u ∷ us) (suc by) v at all idle =
      let c = sum_by-cons size u us in
      let part = part_of size us by v at in
      omega (arith, sum_by-cons f u us, idle 0 u refl (omega (arith, c, all, part)), whole size f us by v at (omega (arith, c, all)) (λ j w e. idle (suc j) w e))

-- two parts of which a positive one is the whole: together they are the whole
pub one_counts : (k l n : ℕ) → k + l ≤ n → (0 < k → k ≡ n) → (0 < l → l ≡ n) → 0 < k + l → k + l ≡ n
one_counts zero l n lt a b some_count = omega (arith, b (omega (arith, some_count)))
one_counts (suc k) l n lt a b some_count = omega (arith, lt, a (omega arith))

pub same_test : (a k x : ℕ) → a ≡ k → ◌≡◌ {A = ℕ} (cond (a == x) 1 0) (cond (k == x) 1 0)
same_test a k x e = rw e refl
