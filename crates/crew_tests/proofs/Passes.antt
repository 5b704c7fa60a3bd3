-- The last of a list.
use Rattle.std.proofs.Common.{List, [], ◌∷◌, ◌++◌}
use Rattle.std.specs.List.{AllByRecursion}

module _ {X : Type 0} (P : X → Type 0) where
  pub last_has : (xs : List X) (x : X) → AllByRecursion P (xs ++ x ∷ []) → P x
  last_has [] x h = h.0
  last_has (y ∷ ys) x h = last_has ys x h.1
