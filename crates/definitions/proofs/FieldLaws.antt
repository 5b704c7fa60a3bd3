-- Laws of the field.
use Rattle.std.proofs.Common.{◌≡◌, ℕ, ◌+◌, ◌%◌, ◌<◌, List, [], ◌∷◌, refl, sym, ◌∙◌, ap, arith}
use Rattle.std.proofs.Common.{◌++◌, zero, suc, length, get_or, take, add-one}
use Rattle.std.proofs.Math.Nat.{add-mod, add-mod-mod, mod-eq_of_lt}
use Rattle.std.specs.List.{sum_by}
use Rattle.std.proofs.lemmas.List.Sums.{sum_by-cons, sum_by-append}
use Rattle.definitions.specs.Field.{modulus, add, mul, total_by, dot}
use Rattle.definitions.proofs.Ring.{var, num, ◌⊕◌, ◌⊗◌, ring}

pub add_comm : (a b : ℕ) → add a b ≡ add b a
add_comm a b = ring (a ∷ b ∷ []) (var 0 ⊕ var 1) (var 1 ⊕ var 0) refl refl refl

pub add_assoc : (a b c : ℕ) → add (add a b) c ≡ add a (add b c)
add_assoc a b c = ring (a ∷ b ∷ c ∷ []) (var 0 ⊕ var 1 ⊕ var 2) (var 0 ⊕ (var 1 ⊕ var 2)) refl refl refl

-- ---- sums over a list

module _ {X : Type 0} where
  pub total_by-nil : (f : X → ℕ) → total_by f [] ≡ 0
  unfolding total_by
  total_by-nil f = refl

  pub total_by-cons : (f : X → ℕ) (x : X) (xs : List X) → total_by f (x ∷ xs) ≡ add (f x) (total_by f xs)
  unfolding total_by add
  total_by-cons f x xs = ap (λ s. s % modulus) (sum_by-cons f x xs) ∙ sym (add-mod-mod (f x) (sum_by f xs) modulus)

  pub total_by-append : (f : X → ℕ) (xs ys : List X) → total_by f (xs ++ ys) ≡ add (total_by f xs) (total_by f ys)
  unfolding total_by add
  total_by-append f xs ys = ap (λ s. s % modulus) (sum_by-append f xs ys) ∙ add-mod _ _ modulus

  pub total_by-add : (f g : X → ℕ) (xs : List X) → total_by (λ x. add (f x) (g x)) xs ≡ add (total_by f xs) (total_by g xs)
  total_by-add f g [] = simp total_by-nil (ring [] (num 0) (num 0 ⊕ num 0) refl refl refl)
  total_by-add f g (x ∷ xs) =
      let a = f x in let b = g x in let c = total_by f xs in let d = total_by g xs in
      total_by-cons _ x xs ∙ ap (λ t. add (add a b) t) (total_by-add f g xs)
      ∙ ring (a ∷ b ∷ c ∷ d ∷ []) (var 0 ⊕ var 1 ⊕ (var 2 ⊕ var 3)) (var 0 ⊕ var 2 ⊕ (var 1 ⊕ var 3)) refl refl refl
      ∙ simp total_by-cons

  pub total_by-mul : (c : ℕ) (f : X → ℕ) (xs : List X) → total_by (λ x. mul c (f x)) xs ≡ mul c (total_by f xs)
  total_by-mul c f [] = simp total_by-nil (ring (c ∷ []) (num 0) (var 0 ⊗ num 0) refl refl refl)
  total_by-mul c f (x ∷ xs) =
      total_by-cons _ x xs ∙ ap (λ t. add (mul c (f x)) t) (total_by-mul c f xs)
      ∙ ring (c ∷ f x ∷ total_by f xs ∷ []) (var 0 ⊗ var 1 ⊕ var 0 ⊗ var 2) (var 0 ⊗ (var 1 ⊕ var 2)) refl refl refl
      ∙ simp total_by-cons

  pub total_by-small : (f : X → ℕ) (xs : List X) → sum_by f xs < modulus → total_by f xs ≡ sum_by f xs
  unfolding total_by
  total_by-small f xs h = mod-eq_of_lt h

  pub total_by-below : (f : X → ℕ) (xs : List X) → total_by f xs < modulus
  unfolding total_by
  total_by-below f xs = omega arith

-- ---- the sum of products

pub dot-take_more : (i : ℕ) (xs ys : List ℕ) → i < length xs → i < length ys
    → dot (take (i + 1) xs) (take (i + 1) ys) ≡ add (dot (take i xs) (take i ys)) (mul (get_or xs i 0) (get_or ys i 0))
dot-take_more i [] ys p q = absurd (omega arith)
dot-take_more i (x ∷ xs) [] p q = absurd (omega arith)
dot-take_more zero (x ∷ xs) (y ∷ ys) p q =
    ring (x ∷ y ∷ []) (var 0 ⊗ var 1 ⊕ num 0) (num 0 ⊕ var 0 ⊗ var 1) refl refl refl
dot-take_more (suc i) (x ∷ xs) (y ∷ ys) p q =
    let more = dot-take_more i xs ys (omega arith) (omega arith) in
    rw (add-one) (rw add-one at (ap (λ s. add (mul x y) s) more))
    ∙ sym (add_assoc (mul x y) (dot (take i xs) (take i ys)) (mul (get_or xs i 0) (get_or ys i 0)))

pub mul-add : (a b c : ℕ) → mul a (add b c) ≡ add (mul a b) (mul a c)
mul-add a b c = ring (a ∷ b ∷ c ∷ []) (var 0 ⊗ (var 1 ⊕ var 2)) (var 0 ⊗ var 1 ⊕ var 0 ⊗ var 2) refl refl refl
