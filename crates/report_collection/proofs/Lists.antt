-- Facts of each element, by place and by recursion.
use Rattle.std.proofs.Common.{◌≡◌, ℕ, zero, suc, ◌<◌, List, [], ◌∷◌, ◌++◌, length, map, take, drop, ap, refl, arith}
use Rattle.std.specs.Prelude.{slice_index_or}
use Rattle.std.specs.List.{AllByRecursion, AllZip}

module _ {X : Type 0} (P : X → Type 0) where
  pub all_of_map : {Y : Type 0} (f : Y → X) (ys : List Y) → ((y : Y) → P (f y)) → AllByRecursion P (map f ys)
  all_of_map f [] h = tt
  all_of_map f (y ∷ ys) h = (h y, all_of_map f ys h)

  pub push_of : (xs : List X) (x : X) → AllByRecursion P xs → P x → AllByRecursion P (xs ++ x ∷ [])
  push_of [] x h p = (p, tt)
  push_of (y ∷ ys) x h p = (h.0, push_of ys x h.1 p)

  pub front_of : (xs : List X) (x : X) → AllByRecursion P (xs ++ x ∷ []) → AllByRecursion P xs
  front_of [] x h = tt
  front_of (y ∷ ys) x h = (h.0, front_of ys x h.1)

  pub last_of : (xs : List X) (x : X) → AllByRecursion P (xs ++ x ∷ []) → P x
  last_of [] x h = h.0
  last_of (y ∷ ys) x h = last_of ys x h.1

-- a relation at each place of two lists of one length
pub zip_of : {X : Type 0} (R : X → X → Type 0) (xs ys : List X) → length ys ≡ length xs
    → ((k : ℕ) (d : X) → k < length xs → R (slice_index_or xs k d) (slice_index_or ys k d)) → AllZip R xs ys
zip_of R [] [] same h = tt
zip_of R [] (y ∷ ys) same h = absurd (omega (arith, same))
zip_of R (x ∷ xs) [] same h = absurd (omega (arith, same))
zip_of R (x ∷ xs) (y ∷ ys) same h = (h 0 x (omega arith), zip_of R xs ys (omega (arith, same)) (λ k d less. h (suc k) d (omega (arith, less))))

-- what a slice of a whole list has written back
pub written : {X : Type 0} (n : ℕ) (new old : List X) → length new ≡ length old → n ≡ length old → take n (new ++ drop (length new) old) ≡ new
written zero [] [] e is = refl
written (suc n) [] [] e is = absurd (omega (arith, is))
written zero (x ∷ xs) (y ∷ ys) e is = absurd (omega (arith, is))
written (suc n) (x ∷ xs) (y ∷ ys) e is = ap (λ l. x ∷ l) (written n xs ys (omega (arith, e)) (omega (arith, is)))
written n [] (y ∷ ys) e is = absurd (omega (arith, e))
written n (x ∷ xs) [] e is = absurd (omega (arith, e))
