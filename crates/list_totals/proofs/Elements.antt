-- Facts of each element of a list, and lists made of numbers one after another.
use Rattle.std.proofs.Common.{◌≡◌, ℕ, zero, suc, ◌+◌, List, [], ◌∷◌, ◌++◌, map, ap, ◌∙◌, arith}
use Rattle.std.specs.List.{AllByRecursion, range_with_len}

module _ {X : Type 0} where
  pub each_map : (F G : X → Type 0) → ((x : X) → F x → G x) → (xs : List X) → AllByRecursion F xs → AllByRecursion G xs
  each_map F G f [] h = tt
  each_map F G f (x ∷ xs) h = (f x h.0, each_map F G f xs h.1)

  pub each_append : (F : X → Type 0) (xs ys : List X) → AllByRecursion F xs → AllByRecursion F ys → AllByRecursion F (xs ++ ys)
  each_append F [] ys h k = k
  each_append F (x ∷ xs) ys h k = (h.0, each_append F xs ys h.1 k)

  pub each_last : (F : X → Type 0) (xs : List X) (x : X) → AllByRecursion F (xs ++ x ∷ []) → F x × AllByRecursion F xs
  each_last F [] x h = (h.0, tt)
  each_last F (y ∷ ys) x h = let more = each_last F ys x h.1 in (more.0, (h.0, more.1))

-- a further number, at the end of those from a on
pub further : {X : Type 0} (f : ℕ → X) (a n : ℕ) → map f (range_with_len a n) ++ f (a + n) ∷ [] ≡ map f (range_with_len a (suc n))
further f a zero = let e : a + 0 ≡ a = omega arith in ap (λ k. f k ∷ []) e
further f a (suc n) =
    let e : a + suc n ≡ a + 1 + n = omega arith in
    ap (λ l. f a ∷ l) (ap (λ k. map f (range_with_len (a + 1) n) ++ f k ∷ []) e ∙ further f (a + 1) n)
