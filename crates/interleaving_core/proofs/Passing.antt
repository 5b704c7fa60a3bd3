-- What both sides come to together, one place further.
use Rattle.std.proofs.Common.{◌≡◌, ℕ, zero, suc, ◌+◌, ◌<◌, Bool, true, false, List, [], ◌∷◌, ◌++◌, length, get_or, take, refl, sym, ◌∙◌, ap, add-one, arith}
use Rattle.std.specs.Prelude.{if◌then◌else◌}
use Rattle.definitions.specs.Sketch.{Sums}
use Rattle.walk_definitions.specs.Reports.{Report}
use Rattle.walk_definitions.specs.Heard.{paired}
use Rattle.core_definitions.specs.System.{passes_by, passed_by}

one-more : {X : Type 0} (b : Bool) (x : X) (xs ys one : List X) → xs ≡ ys ++ one → (if b then x ∷ xs else xs) ≡ (if b then x ∷ ys else ys) ++ one
one-more true x xs ys one e = ap (λ l. x ∷ l) e
one-more false x xs ys one e = e

module _ (batch : List Report) (level : ℕ) where
  passed-suc : (k : ℕ) (is : List ℕ) (ss ts : List Sums) (i : ℕ) (s t : Sums) → k < length is → length ss ≡ length is → length ts ≡ length is
      → i ≡ get_or is k 0 → s ≡ get_or ss k s → t ≡ get_or ts k t
      → passed_by batch level (take (suc k) is) (take (suc k) ss) (take (suc k) ts)
      ≡ passed_by batch level (take k is) (take k ss) (take k ts) ++ (if passes_by batch level i s t then i ∷ [] else [])
  passed-suc k [] ss ts i s t p e f g h j = absurd (omega (arith, p))
  passed-suc k (x ∷ xs) [] ts i s t p e f g h j = absurd (omega (arith, e))
  passed-suc k (x ∷ xs) (y ∷ ys) [] i s t p e f g h j = absurd (omega (arith, f))
  passed-suc zero (x ∷ xs) (y ∷ ys) (z ∷ zs) i s t p e f g h j =
      ap (λ n. if passes_by batch level n y z then n ∷ [] else []) (sym g)
      ∙ ap (λ a. if passes_by batch level i a z then i ∷ [] else []) (sym h)
      ∙ ap (λ a. if passes_by batch level i s a then i ∷ [] else []) (sym j)
  passed-suc (suc k) (x ∷ xs) (y ∷ ys) (z ∷ zs) i s t p e f g h j =
      one-more (passes_by batch level x y z) x _ _ _ (passed-suc k xs ys zs i s t (omega (arith, p)) (omega (arith, e)) (omega (arith, f)) g h j)

  -- the places that pass, of one report more
  pub passed-more : (k : ℕ) (is : List ℕ) (ss ts : List Sums) (i : ℕ) (s t : Sums) → k < length is → length ss ≡ length is → length ts ≡ length is
      → i ≡ get_or is k 0 → s ≡ get_or ss k s → t ≡ get_or ts k t
      → passed_by batch level (take (k + 1) is) (take (k + 1) ss) (take (k + 1) ts)
      ≡ passed_by batch level (take k is) (take k ss) (take k ts) ++ (if passes_by batch level i s t then i ∷ [] else [])
  passed-more k is ss ts i s t p e f g h j =
      ap (λ n. passed_by batch level (take n is) (take n ss) (take n ts)) (add-one k) ∙ passed-suc k is ss ts i s t p e f g h j

module _ {X : Type 0} (f : X → X → X) where
  paired-suc : (k : ℕ) (xs ys : List X) (x y : X) → k < length xs → length ys ≡ length xs → x ≡ get_or xs k x → y ≡ get_or ys k y
      → paired f (take (suc k) xs) (take (suc k) ys) ≡ paired f (take k xs) (take k ys) ++ f x y ∷ []
  paired-suc k [] ys x y p e g h = absurd (omega (arith, p))
  paired-suc k (a ∷ xs) [] x y p e g h = absurd (omega (arith, e))
  paired-suc zero (a ∷ xs) (b ∷ ys) x y p e g h = ap (λ n. f n b ∷ []) (sym g) ∙ ap (λ n. f x n ∷ []) (sym h)
  paired-suc (suc k) (a ∷ xs) (b ∷ ys) x y p e g h =
      ap (λ l. f a b ∷ l) (paired-suc k xs ys x y (omega (arith, p)) (omega (arith, e)) g h)

  pub paired-more : (k : ℕ) (xs ys : List X) (x y : X) → k < length xs → length ys ≡ length xs → x ≡ get_or xs k x → y ≡ get_or ys k y
      → paired f (take (k + 1) xs) (take (k + 1) ys) ≡ paired f (take k xs) (take k ys) ++ f x y ∷ []
  paired-more k xs ys x y p e g h = ap (λ n. paired f (take n xs) (take n ys)) (add-one k) ∙ paired-suc k xs ys x y p e g h

pub paired-length : {X : Type 0} (f : X → X → X) (xs ys : List X) → length xs ≡ length ys → length (paired f xs ys) ≡ length xs
paired-length f [] ys e = refl
paired-length f (x ∷ xs) [] e = absurd (omega (arith, e))
paired-length f (x ∷ xs) (y ∷ ys) e = let rest = paired-length f xs ys (omega (arith, e)) in omega (arith, rest)
