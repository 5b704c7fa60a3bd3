-- Facts on each element of a list.
use Rattle.std.proofs.Common.{◌≡◌, ℕ, suc, List, [], ◌∷◌, ◌++◌, length, map, count_by, cond, ◌==◌, refl, ap, arith}
use Rattle.std.proofs.lemmas.List.Sums.{sum_by-cons}
use Rattle.turn_lock.specs.declared.views.Mine.{Mine}
use Rattle.std.specs.List.{AllByRecursion}
use Rattle.turn_lock.specs.Seen.{PassSeen}
use Rattle.turn_lock.specs.Seats.{numbered, mine_of}

-- passes as a seat keeps them
module _ {P E : Type 0} where
  pub numbered_mine : (n : ℕ) (xs : List (PassSeen P E)) → numbered n (map mine_of xs) ≡ count_by (λ x. x.number == n) xs
  numbered_mine n [] = refl
  numbered_mine n (x ∷ xs) =
      omega (
        arith,
        sum_by-cons (λ (m : Mine P E). cond (m.number == n) 1 0) (mine_of x) (map mine_of xs),
        sum_by-cons (λ (z : PassSeen P E). cond (z.number == n) 1 0) x xs,
        numbered_mine n xs,
      )

  pub each_mine : (F : Mine P E → Type 0) (G : PassSeen P E → Type 0) → ((x : PassSeen P E) → F (mine_of x) → G x)
      → (xs : List (PassSeen P E)) → AllByRecursion F (map mine_of xs) → AllByRecursion G xs
  each_mine F G go [] h = tt
  each_mine F G go (x ∷ xs) h = (go x h.0, each_mine F G go xs h.1)

-- what was mapped, with the last element taken over to the front of what follows
pub map_last : {X Y : Type 0} (f : X → Y) (xs : List X) (x : X) (ys : List Y) → map f (xs ++ x ∷ []) ++ ys ≡ map f xs ++ (f x ∷ ys)
map_last f [] x ys = refl
map_last f (z ∷ zs) x ys = ap (λ l. f z ∷ l) (map_last f zs x ys)

pub length_push : {X : Type 0} (xs : List X) (x : X) → length (xs ++ x ∷ []) ≡ suc (length xs)
length_push [] x = refl
length_push (y ∷ ys) x = ap suc (length_push ys x)
