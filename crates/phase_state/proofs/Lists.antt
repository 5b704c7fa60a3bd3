-- Facts of lists that the loops and the posts cite.
use Rattle.std.proofs.Common.{◌≡◌, ℕ, zero, suc, ◌+◌, ◌-◌, ◌<◌, ◌≤◌, List, [], ◌∷◌, ◌++◌, length, get_or, map, take, drop, refl, ◌∙◌, ap, arith}
use Rattle.std.specs.Prelude.{slice_range}
use Rattle.std.proofs.lemmas.List.{take-map, drop-map, length-take, length-drop}

pub map_push : {X Y : Type 0} (f : X → Y) (xs : List X) (x : X) → map f (xs ++ x ∷ []) ≡ map f xs ++ f x ∷ []
map_push f [] x = refl
map_push f (y ∷ xs) x = ap (λ t. f y ∷ t) (map_push f xs x)

pub map_slice : {X Y : Type 0} (f : X → Y) (xs : List X) (a b : ℕ) → slice_range (map f xs) a b ≡ map f (slice_range xs a b)
map_slice f xs a b = ap (take (b - a)) (drop-map f a xs) ∙ take-map f (b - a) (drop a xs)

-- how long a range is
pub slice_length : {X : Type 0} (xs : List X) (a b : ℕ) → a ≤ b → b ≤ length xs → a + length (slice_range xs a b) ≡ b
slice_length xs a b h inside = omega (arith, length-take (b - a) (drop a xs), length-drop a xs, h, inside)

-- what a slice of a whole list has written back
pub written : {X : Type 0} (n : ℕ) (new old : List X) → length new ≡ length old → n ≡ length old → take n (new ++ drop (length new) old) ≡ new
written zero [] [] e is = refl
written (suc n) [] [] e is = absurd (omega (arith, is))
written zero (x ∷ xs) (y ∷ ys) e is = absurd (omega (arith, is))
written (suc n) (x ∷ xs) (y ∷ ys) e is = ap (λ l. x ∷ l) (written n xs ys (omega (arith, e)) (omega (arith, is)))
written n [] (y ∷ ys) e is = absurd (omega (arith, e))
written n (x ∷ xs) [] e is = absurd (omega (arith, e))

pub read_at : {X : Type 0} (i : ℕ) (xs : List X) (d : X) → i < length xs → get_or xs i d ≡ get_or xs i (get_or xs i d)
read_at i [] d h = absurd (omega arith)
read_at zero (x ∷ xs) d h = refl
read_at (suc i) (x ∷ xs) d h = read_at i xs d (omega arith)
