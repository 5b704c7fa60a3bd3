-- What the loops over live reports and candidates cite.
use Rattle.std.proofs.Common.{◌≡◌, ℕ, zero, suc, ◌+◌, ◌<◌, Bool, true, false, List, [], ◌∷◌, ◌++◌, length, get_or, take, drop, refl, sym, ◌∙◌, ap, subst, add-one, arith, append_assoc}
use Rattle.std.specs.Prelude.{◌==◌, if◌then◌else◌}
use Rattle.std.specs.List.{All}
use Rattle.walk_definitions.specs.Reports.{Report}
use Rattle.walk_definitions.specs.Heard.{kept}
use Rattle.pair_run.specs.Places.{picked}

module _ {X : Type 0} where
  -- the item at a place, as a list
  pub one_at : (k : ℕ) (xs : List X) (x : X) → k < length xs → x ≡ get_or xs k x → take 1 (drop k xs) ≡ x ∷ []
  one_at k [] x h e = absurd (omega arith)
  one_at zero (y ∷ ys) x h e = ap (λ z. z ∷ []) (sym e)
  one_at (suc k) (y ∷ ys) x h e = one_at k ys x (omega arith) e

  pub drop_step : (i : ℕ) (xs : List X) (x : X) → i < length xs → x ≡ get_or xs i x → drop i xs ≡ x ∷ drop (i + 1) xs
  drop_step i [] x h e = absurd (omega arith)
  drop_step zero (y ∷ ys) x h e = ap (λ z. z ∷ ys) (sym e)
  drop_step (suc i) (y ∷ ys) x h e =
      drop_step i ys x (omega arith) e ∙ ap (λ k. x ∷ drop k ys) (add-one i) ∙ ap (λ k. x ∷ drop k (y ∷ ys)) (sym (add-one (suc i)))

  pub read_at : (i : ℕ) (xs : List X) (d : X) → i < length xs → get_or xs i d ≡ get_or xs i (get_or xs i d)
  read_at i [] d h = absurd (omega arith)
  read_at zero (x ∷ xs) d h = refl
  read_at (suc i) (x ∷ xs) d h = read_at i xs d (omega arith)

  some_at : (i : ℕ) (xs : List X) → i < length xs → (x : X) × (x ≡ get_or xs i x)
  some_at i [] h = absurd (omega arith)
  some_at zero (x ∷ xs) h = (x, refl)
  some_at (suc i) (x ∷ xs) h = some_at i xs (omega arith)

module _ {X : Type 0} where
  pub picked_step : (xs : List X) (ks : List ℕ) (i k : ℕ) (x : X) → i < length ks → k ≡ get_or ks i k → k < length xs → x ≡ get_or xs k x
      → picked xs (drop i ks) ≡ x ∷ picked xs (drop (i + 1) ks)
  picked_step xs ks i k x h e below is =
      ap (picked xs) (drop_step i ks k h e) ∙ ap (λ t. t ++ picked xs (drop (i + 1) ks)) (one_at k xs x below is)

  pub picked_append : (xs : List X) (ks : List ℕ) (k : ℕ) → picked xs (ks ++ k ∷ []) ≡ picked xs ks ++ picked xs (k ∷ [])
  picked_append xs [] k = refl
  picked_append xs (j ∷ ks) k =
      ap (λ t. take 1 (drop j xs) ++ t) (picked_append xs ks k) ∙ sym (append_assoc (take 1 (drop j xs)) (picked xs ks) (picked xs (k ∷ [])))

take_one_more : {X : Type 0} (k : ℕ) (xs : List X) → take k xs ++ (take 1 (drop k xs) ++ []) ≡ take (k + 1) xs
take_one_more zero [] = refl
take_one_more (suc k) [] = ap (λ n. take n []) (sym (add-one (suc k)))
take_one_more zero (x ∷ xs) = refl
take_one_more (suc k) (x ∷ xs) =
    ap (λ t. x ∷ t) (take_one_more k xs) ∙ ap (λ n. x ∷ take n xs) (add-one k) ∙ ap (λ n. take n (x ∷ xs)) (sym (add-one (suc k)))

-- a loop's step: the first places pick the first items
pub first_places : {X : Type 0} (xs : List X) (live : List ℕ) (k : ℕ) → picked xs live ≡ take k xs → picked xs (live ++ k ∷ []) ≡ take (k + 1) xs
first_places xs live k e = picked_append xs live k ∙ ap (λ t. t ++ (take 1 (drop k xs) ++ [])) e ∙ take_one_more k xs

-- a loop's step: the places kept so far, and what is kept of those to come
pub kept_step : (batch : List Report) (live numbers still : List ℕ) (whole : List Report) (i place n : ℕ) (b : Bool)
    → i < length live → length numbers ≡ length live → place ≡ get_or live i place → n ≡ get_or numbers i n → (n == 0) ≡ b
    → All (λ k. k < length batch) live
    → picked batch still ++ kept (picked batch (drop i live)) (drop i numbers) ≡ whole
    → picked batch (if b then still ++ place ∷ [] else still) ++ kept (picked batch (drop (i + 1) live)) (drop (i + 1) numbers) ≡ whole
kept_step batch live numbers still whole i place n b h long is_place is_n test all before =
    let below : place < length batch = subst (λ p. p < length batch) (sym is_place) (all i place h) in
    let some = some_at place batch below in
    let r = some.0 in
    let now : kept (r ∷ picked batch (drop (i + 1) live)) (n ∷ drop (i + 1) numbers) ≡ kept (picked batch (drop i live)) (drop i numbers) =
    sym (ap (λ rs. kept rs (drop i numbers)) (picked_step batch live i place r h is_place below some.1)
    ∙ ap (kept (r ∷ picked batch (drop (i + 1) live))) (drop_step i numbers n (omega (arith, long)) is_n)) in
    at b r (one_at place batch r below some.1)
    (ap (λ b. if b then r ∷ kept (picked batch (drop (i + 1) live)) (drop (i + 1) numbers) else kept (picked batch (drop (i + 1) live)) (drop (i + 1) numbers)) (sym test) ∙ now)
  where
    at : (b : Bool) (r : Report) → take 1 (drop place batch) ≡ r ∷ []
        → (if b then r ∷ kept (picked batch (drop (i + 1) live)) (drop (i + 1) numbers) else kept (picked batch (drop (i + 1) live)) (drop (i + 1) numbers))
        ≡ kept (picked batch (drop i live)) (drop i numbers)
        → picked batch (if b then still ++ place ∷ [] else still) ++ kept (picked batch (drop (i + 1) live)) (drop (i + 1) numbers) ≡ whole
    at true r one now =
        let rest = kept (picked batch (drop (i + 1) live)) (drop (i + 1) numbers) in
        ap (λ t. t ++ rest) (picked_append batch still place ∙ ap (λ t. picked batch still ++ (t ++ [])) one)
        ∙ append_assoc (picked batch still) (r ∷ []) rest ∙ ap (λ t. picked batch still ++ t) now ∙ before
    at false r one now = ap (λ t. picked batch still ++ t) now ∙ before
