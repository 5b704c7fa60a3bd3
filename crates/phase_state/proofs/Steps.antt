-- Steps of the loops over live reports and candidates.
use Rattle.std.proofs.Common.{◌≡◌, ℕ, zero, suc, ◌+◌, ◌<◌, List, [], ◌∷◌, ◌++◌, length, get_or, map, take, refl, sym, ◌∙◌, ap, add-one, arith}
use Rattle.std.proofs.lemmas.List.{take_more, get_or_read}
use Rattle.definitions.specs.Evaluation.{Share}
use Rattle.definitions.specs.Field.{add, mul, total_by}
use Rattle.definitions.specs.Sketch.{weighted}
use Rattle.definitions.proofs.FieldLaws.{add_assoc, total_by-nil, total_by-cons, total_by-append}
use Rattle.definitions.proofs.Ring.{var, num, ◌⊕◌, ◌⊗◌, ring}
use Rattle.core_definitions.specs.Phase.{no_share}
use Rattle.phase_state.specs.Sums.{share_at}
use Rattle.phase_state.proofs.Lists.{map_push}

module _ {X Y : Type 0} (f : X → Y) where
  -- a loop's step: one item more was made
  pub map_step : (xs : List X) (i : ℕ) (x : X) (old new : List Y) (y : Y) → i < length xs → x ≡ get_or xs i x
      → old ≡ map f (take i xs) → y ≡ f x → new ≡ old ++ y ∷ [] → new ≡ map f (take (i + 1) xs)
  map_step xs i x old new y h is before value next =
      next ∙ ap (λ l. l ++ y ∷ []) before ∙ ap (λ z. map f (take i xs) ++ z ∷ []) (value ∙ ap f is)
      ∙ sym (ap (map f) (take_more xs i x h) ∙ map_push f (take i xs) (get_or xs i x))

pub total_push : {X : Type 0} (f : X → ℕ) (xs : List X) (x : X) → total_by f (xs ++ x ∷ []) ≡ add (total_by f xs) (f x)
total_push f xs x =
    total_by-append f xs (x ∷ []) ∙ ap (add (total_by f xs)) (total_by-cons f x [] ∙ ap (add (f x)) (total_by-nil f))
    ∙ ring (total_by f xs ∷ f x ∷ []) (var 0 ⊕ (var 1 ⊕ num 0)) (var 0 ⊕ var 1) refl refl refl

module _ (shares : List Share) (live : List ℕ) (i k : ℕ) (share : Share) (h : i < length live) (at : k ≡ get_or live i k)
    (below : k < length shares) (is : share ≡ get_or shares k share) where
  -- the shares of the first live reports, and of one more
  one_more : map (share_at shares) (take (i + 1) live) ≡ map (share_at shares) (take i live) ++ share ∷ []
  one_more =
      ap (map (share_at shares)) (take_more live i k h) ∙ map_push (share_at shares) (take i live) (get_or live i k)
      ∙ ap (λ s. map (share_at shares) (take i live) ++ s ∷ []) (ap (share_at shares) (sym at) ∙ sym (get_or_read shares k share below is no_share))

  -- a loop's step: one share more was made into an item
  pub share_step : {Y : Type 0} (f : Share → Y) (old new : List Y) (y : Y) → old ≡ map f (map (share_at shares) (take i live)) → y ≡ f share → new ≡ old ++ y ∷ []
      → new ≡ map f (map (share_at shares) (take (i + 1) live))
  share_step f old new y before value next =
      next ∙ ap (λ l. l ++ y ∷ []) before ∙ ap (λ z. map f (map (share_at shares) (take i live)) ++ z ∷ []) value
      ∙ sym (ap (map f) one_more ∙ map_push f (map (share_at shares) (take i live)) share)

  -- a loop's step: one share's value more was added
  pub total_step : (f : Share → ℕ) (old new value : ℕ) → old ≡ total_by f (map (share_at shares) (take i live)) → value ≡ f share → new ≡ add old value
      → new ≡ total_by f (map (share_at shares) (take (i + 1) live))
  total_step f old new value before same next =
      next ∙ ap (λ n. add n value) before ∙ ap (add (total_by f (map (share_at shares) (take i live)))) same
      ∙ sym (ap (total_by f) one_more ∙ total_push f (map (share_at shares) (take i live)) share)

weighted-more : {X : Type 0} (coin : ℕ → ℕ) (place : ℕ) (f : X → ℕ) (i : ℕ) (xs : List X) (x : X) → i < length xs → get_or xs i x ≡ x
    → weighted coin place (map f (take (i + 1) xs)) ≡ add (weighted coin place (map f (take i xs))) (mul (coin (place + i)) (f x))
weighted-more coin place f i [] x h e = absurd (omega arith)
weighted-more coin place f zero (y ∷ ys) x h e =
    let same : place ≡ place + 0 = omega arith in
    let is : y ≡ x = e in
    ring (coin place ∷ f y ∷ []) (var 0 ⊗ var 1 ⊕ num 0) (num 0 ⊕ var 0 ⊗ var 1) refl refl refl
    ∙ ap (λ p. add 0 (mul (coin p) (f y))) same
    ∙ ap (λ z. add 0 (mul (coin (place + 0)) (f z))) is
weighted-more coin place f (suc i) (y ∷ ys) x h e =
    let same : place + 1 + i ≡ place + suc i = omega arith in
    ap (λ k. weighted coin place (map f (take k (y ∷ ys)))) (add-one (suc i))
    ∙ ap (λ k. add (mul (coin place) (f y)) (weighted coin (place + 1) (map f (take k ys)))) (sym (add-one i))
    ∙ ap (λ t. add (mul (coin place) (f y)) t) (weighted-more coin (place + 1) f i ys x (omega arith) e)
    ∙ sym (add_assoc (mul (coin place) (f y)) (weighted coin (place + 1) (map f (take i ys))) (mul (coin (place + 1 + i)) (f x)))
    ∙ ap (λ p. add (add (mul (coin place) (f y)) (weighted coin (place + 1) (map f (take i ys)))) (mul (coin p) (f x))) same

-- a loop's step: the sum so far and the product at the next item, where the first item stands at that place
pub weighted-step : {X : Type 0} (coin : ℕ → ℕ) (place : ℕ) (f : X → ℕ) (i : ℕ) (xs : List X) (x : X) (old new r d : ℕ) → i < length xs → x ≡ get_or xs i x
    → old ≡ weighted coin place (map f (take i xs)) → r ≡ coin (place + i) → d ≡ f x → new ≡ add old (mul r d)
    → new ≡ weighted coin place (map f (take (i + 1) xs))
weighted-step coin place f i xs x old new r d h is before same_r same_d same_new =
    let more = weighted-more coin place f i xs x h (sym is) in
    cc
