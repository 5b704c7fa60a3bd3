-- What stands in a list that was filtered, mapped or joined of lists.
use Rattle.std.proofs.Common.{◌≡◌, ◌⊎◌, inl, inr, ℕ, zero, suc, ◌+◌, ◌<◌, Bool, true, false, cond, List, [], ◌∷◌, ◌++◌, length, map, count_by, drop, refl, sym, ◌∙◌, ap, subst, arith, append-nil}
use Rattle.std.specs.Prelude.{filter, flat_map}
use Rattle.std.specs.List.{AllByRecursion, range_with_len}
use Rattle.std.proofs.lemmas.List.Sums.{sum_by-cons}
use Rattle.std.proofs.Math.Seq.{drop-length}

module _ {X : Type 0} where
  -- x is an element of the list
  abbrev pub Has : X → List X → Type 0
  Has x [] = ⊥
  Has x (y ∷ ys) = (y ≡ x) ⊎ Has x ys

  pub has-left : (x : X) (xs ys : List X) → Has x xs → Has x (xs ++ ys)
  has-left x [] ys h = absurd h
  has-left x (z ∷ zs) ys (inl e) = inl e
  has-left x (z ∷ zs) ys (inr h) = inr (has-left x zs ys h)

  pub has-right : (x : X) (xs ys : List X) → Has x ys → Has x (xs ++ ys)
  has-right x [] ys h = h
  has-right x (z ∷ zs) ys h = inr (has-right x zs ys h)

  pub has-either : (x : X) (xs ys : List X) → Has x (xs ++ ys) → Has x xs ⊎ Has x ys
  has-either x [] ys h = inr h
  has-either x (z ∷ zs) ys (inl e) = inl (inl e)
  has-either x (z ∷ zs) ys (inr h) = at (has-either x zs ys h)
    where
      at : Has x zs ⊎ Has x ys → Has x (z ∷ zs) ⊎ Has x ys
      at (inl a) = inl (inr a)
      at (inr b) = inr b

  pub of_each : (P : X → Type 0) (x : X) (xs : List X) → AllByRecursion P xs → Has x xs → P x
  of_each P x [] all h = absurd h
  of_each P x (y ∷ ys) all (inl e) = subst P e all.0
  of_each P x (y ∷ ys) all (inr h) = of_each P x ys all.1 h

  module _ (p : X → Bool) where
    pub has-filter : (x : X) (xs : List X) → Has x xs → p x ≡ true → Has x (filter p xs)
    has-filter x [] h e = absurd h
    has-filter x (y ∷ ys) h e = at (p y) refl h (λ n. has-filter x ys n e)
      where
        at : (b : Bool) → p y ≡ b → Has x (y ∷ ys) → (Has x ys → Has x (filter p ys)) → Has x (cond b (y ∷ filter p ys) (filter p ys))
        at true f (inl s) more = inl s
        at true f (inr n) more = inr (more n)
        at false f (inl s) more = let no : ⊥ = cc in absurd no
        at false f (inr n) more = more n

    pub filter-has : (x : X) (xs : List X) → Has x (filter p xs) → Has x xs × (p x ≡ true)
    filter-has x [] h = absurd h
    filter-has x (y ∷ ys) h = at (p y) refl h (filter-has x ys)
      where
        at : (b : Bool) → p y ≡ b → Has x (cond b (y ∷ filter p ys) (filter p ys)) → (Has x (filter p ys) → Has x ys × (p x ≡ true)) → Has x (y ∷ ys) × (p x ≡ true)
        at true f (inl s) more = (inl s, ap p (sym s) ∙ f)
        at true f (inr n) more = (inr (more n).0, (more n).1)
        at false f n more = (inr (more n).0, (more n).1)

    -- an element that is counted
    pub counted : (xs : List X) → 0 < count_by p xs → (x : X) × Has x xs × (p x ≡ true)
    counted [] less = absurd (omega (arith, less))
    counted (x ∷ xs) less = at (p x) refl (counted xs)
      where
        at : (b : Bool) → p x ≡ b → (0 < count_by p xs → (y : X) × Has y xs × (p y ≡ true)) → (y : X) × Has y (x ∷ xs) × (p y ≡ true)
        at true e rest = (x, inl refl, e)
        at false e rest =
            let left = sum_by-cons (λ (y : X). cond (p y) 1 0) x xs in
            let none : ◌≡◌ {A = ℕ} (cond (p x) 1 0) 0 = ap (λ (b : Bool). cond b 1 0) e in
            let more = rest (omega (arith, less, left, none)) in (more.0, inr more.1, more.2)

module _ {X Y : Type 0} where
  pub has-map : (f : X → Y) (x : X) (xs : List X) → Has x xs → Has (f x) (map f xs)
  has-map f x [] h = absurd h
  has-map f x (y ∷ ys) (inl e) = inl (ap f e)
  has-map f x (y ∷ ys) (inr h) = inr (has-map f x ys h)

  pub map-has : (f : X → Y) (y : Y) (xs : List X) → Has y (map f xs) → (x : X) × Has x xs × (f x ≡ y)
  map-has f y [] h = absurd h
  map-has f y (x ∷ xs) (inl e) = (x, inl refl, e)
  map-has f y (x ∷ xs) (inr h) = let more = map-has f y xs h in (more.0, inr more.1, more.2)

  pub has-flat : (f : X → List Y) (x : X) (y : Y) (xs : List X) → Has x xs → Has y (f x) → Has y (flat_map f xs)
  has-flat f x y [] h i = absurd h
  has-flat f x y (z ∷ zs) (inl e) i = has-left y (f z) (flat_map f zs) (subst (λ w. Has y (f w)) (sym e) i)
  has-flat f x y (z ∷ zs) (inr h) i = has-right y (f z) (flat_map f zs) (has-flat f x y zs h i)

  pub flat-has : (f : X → List Y) (y : Y) (xs : List X) → Has y (flat_map f xs) → (x : X) × Has x xs × Has y (f x)
  flat-has f y [] h = absurd h
  flat-has f y (x ∷ xs) h = at (has-either y (f x) (flat_map f xs) h) (flat-has f y xs)
    where
      at : Has y (f x) ⊎ Has y (flat_map f xs) → (Has y (flat_map f xs) → (w : X) × Has w xs × Has y (f w)) → (w : X) × Has w (x ∷ xs) × Has y (f w)
      at (inl a) rest = (x, inl refl, a)
      at (inr b) rest = let more = rest b in (more.0, inr more.1, more.2)

-- each number of a range stands in it
has-range : (a n k : ℕ) → k < n → Has (a + k) (range_with_len a n)
has-range a zero k less = absurd (omega (arith, less))
has-range a (suc n) zero less = inl (omega arith)
has-range a (suc n) (suc k) less = inr (subst (λ (j : ℕ). Has j (range_with_len (a + 1) n)) (omega arith) (has-range (a + 1) n k (omega (arith, less))))

pub has-below : (n k : ℕ) → k < n → Has k (range_with_len 0 n)
has-below n k less = subst (λ (j : ℕ). Has j (range_with_len 0 n)) (omega arith) (has-range 0 n k less)

-- nothing is added to own entries where the log stayed
pub nothing_new : {E : Type 0} (own taken now : List E) → now ≡ taken → own ++ drop (length taken) now ≡ own
nothing_new own taken now same = ap (λ l. own ++ drop (length taken) l) same ∙ ap (λ l. own ++ l) (drop-length taken) ∙ append-nil own
