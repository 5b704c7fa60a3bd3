-- Laws of the sketch's sums.
use Rattle.std.proofs.Common.{◌≡◌, ℕ, ◌+◌, List, [], ◌∷◌, ◌++◌, length, refl, ◌∙◌, ap, arith}
use Rattle.std.specs.Prelude.{map}
use Rattle.definitions.specs.Field.{add, mul}
use Rattle.definitions.specs.Sketch.{weighted}
use Rattle.definitions.proofs.Ring.{var, num, ◌⊕◌, ◌⊗◌, ring}

module _ {X : Type 0} where
  -- two sides' sums are the sum of what the sides have together
  pub weighted-add : (coin : ℕ → ℕ) (place : ℕ) (f g : X → ℕ) (xs : List X)
      → add (weighted coin place (map f xs)) (weighted coin place (map g xs)) ≡ weighted coin place (map (λ x. add (f x) (g x)) xs)
  weighted-add coin place f g [] = ring [] (num 0 ⊕ num 0) (num 0) refl refl refl
  weighted-add coin place f g (x ∷ xs) =
      let r = coin place in let s = weighted coin (place + 1) (map f xs) in let t = weighted coin (place + 1) (map g xs) in
      ring (r ∷ f x ∷ g x ∷ s ∷ t ∷ [])
      (var 0 ⊗ var 1 ⊕ var 3 ⊕ (var 0 ⊗ var 2 ⊕ var 4)) (var 0 ⊗ (var 1 ⊕ var 2) ⊕ (var 3 ⊕ var 4)) refl refl refl
      ∙ ap (λ u. add (mul r (add (f x) (g x))) u) (weighted-add coin (place + 1) f g xs)

-- a sum is an element
weighted-again : (coin : ℕ → ℕ) (place : ℕ) (ds : List ℕ) → weighted coin place ds ≡ add 0 (weighted coin place ds)
weighted-again coin place [] = ring [] (num 0) (num 0 ⊕ num 0) refl refl refl
weighted-again coin place (d ∷ ds) =
    ring (coin place ∷ d ∷ weighted coin (place + 1) ds ∷ []) (var 0 ⊗ var 1 ⊕ var 2) (num 0 ⊕ (var 0 ⊗ var 1 ⊕ var 2)) refl refl refl

-- a sum over two pieces of a list is the sum of the pieces' sums, the second beginning where the first ends
pub weighted-append : (coin : ℕ → ℕ) (place : ℕ) (ds es : List ℕ)
    → weighted coin place (ds ++ es) ≡ add (weighted coin place ds) (weighted coin (place + length ds) es)
weighted-append coin place [] es =
    let same : place ≡ place + 0 = omega arith in
    ap (λ p. weighted coin p es) same ∙ weighted-again coin (place + 0) es
weighted-append coin place (d ∷ ds) es =
    let same : place + 1 + length ds ≡ place + length (d ∷ ds) = omega arith in
    let r = coin place in let s = weighted coin (place + 1) ds in let t = weighted coin (place + 1 + length ds) es in
    ap (λ u. add (mul r d) u) (weighted-append coin (place + 1) ds es)
    ∙ ring (r ∷ d ∷ s ∷ t ∷ []) (var 0 ⊗ var 1 ⊕ (var 2 ⊕ var 3)) (var 0 ⊗ var 1 ⊕ var 2 ⊕ var 3) refl refl refl
    ∙ ap (λ p. add (add (mul r d) s) (weighted coin p es)) same
