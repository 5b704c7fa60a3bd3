-- What a list has, by recursion and by places.
use Rattle.std.proofs.Common.{inl, inr, suc, List, [], ◌∷◌, arith}
use Rattle.std.specs.List.{Contains}
use Rattle.walk_definitions.proofs.Order.{Member}

pub member-contained : {X : Type 0} (x : X) (xs : List X) → Member x xs → Contains xs x
member-contained x [] m = absurd m
member-contained x (y ∷ ys) (inl e) = (0, omega arith, e)
member-contained x (y ∷ ys) (inr m) = let there = member-contained x ys m in (suc there.0, omega (arith, there.1), there.2)
