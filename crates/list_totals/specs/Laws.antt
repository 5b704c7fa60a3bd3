-- What holds of totals over lists.
use Rattle.std.specs.Prelude.{◌≡◌, ◌≢◌, ℕ, ◌+◌, ◌≤◌, List, sum_by, set}
use mathlib.Core.Option.{some}
use lib.ListN.{get_elem?}

module _ (X : Type 0) where
  -- One place is changed: the total loses what stood there and gains what stands there now.
  abbrev pub ChangeLaw : Type 0
  ChangeLaw = (f : X → ℕ) (xs : List X) (place : ℕ) (was now : X) → get_elem? xs place ≡ some was
      → sum_by f (set xs place now) + f was ≡ sum_by f xs + f now

  -- What stands at two different places is together at most the total.
  abbrev pub PartsLaw : Type 0
  PartsLaw = (f : X → ℕ) (xs : List X) (place other : ℕ) (x y : X) → get_elem? xs place ≡ some x → get_elem? xs other ≡ some y → other ≢ place
      → f x + f y ≤ sum_by f xs

  -- Where one place has the whole size, it has all of each total to which only what has size adds.
  abbrev pub WholeLaw : Type 0
  WholeLaw = (size f : X → ℕ) (xs : List X) (place : ℕ) (x : X) → get_elem? xs place ≡ some x → sum_by size xs ≤ size x
      → ((other : ℕ) (y : X) → get_elem? xs other ≡ some y → size y ≡ 0 → f y ≡ 0) → sum_by f xs ≡ f x
