-- How the facts of all drawers and all passes come together.
use Rattle.std.proofs.Common.{◌≡◌, ◌≢◌, ℕ, ◌+◌, ◌<◌, ◌==◌, Bool, true, false, cond, List, [], ◌∷◌, ◌++◌, sum_by, count_by, refl, ap, sym, ◌∙◌, subst, arith, true≢false}
use Rattle.std.proofs.lemmas.List.Sums.{sum_by-cons}
use mathlib.Core.Logic.{dite}
use native.Mathlib.Decide.{ℕ_discrete}
use Rattle.std.specs.List.{AllByRecursion}
use Rattle.turn_lock.specs.Logs.{entries_of}
use Rattle.core_definitions.specs.Phase.{Posting}
use Rattle.phase_state.specs.Logs.{posts, tiles_in}
use Rattle.phase_state.proofs.Marks.{nat_is, nat_is_not}
use Rattle.phase_workers.specs.Crews.{Pairs}

module _ {X Y : Type 0} (R : X → Y → Type 0) where
  -- where the total of f is not 0, one pair has an f that is not 0
  pub some_pair : (f : X → ℕ) (G : Y → Type 0) (C : Type 0) (xs : List X) (ys : List Y) → Pairs R xs ys → AllByRecursion G ys → ((x : X) (y : Y) → 0 < f x → R x y → G y → C) → 0 < sum_by f xs → C
  some_pair f G C [] [] p g go pos = absurd (omega (arith, pos))
  some_pair f G C [] (y ∷ ys) p g go pos = absurd p
  some_pair f G C (x ∷ xs) [] p g go pos = absurd p
  some_pair f G C (x ∷ xs) (y ∷ ys) p g go pos =
      dite (ℕ_discrete (f x) 0)
      (λ z. some_pair f G C xs ys p.1 g.1 go (omega (arith, z, pos, sum_by-cons f x xs)))
      (λ nz. go x y (omega (arith, nz)) p.0 g.0)

  pub pairs_push : (xs : List X) (ys : List Y) (x : X) (y : Y) → Pairs R xs ys → R x y → Pairs R (xs ++ x ∷ []) (ys ++ y ∷ [])
  pairs_push [] [] x y p r = (r, tt)
  pairs_push [] (b ∷ ys) x y p r = absurd p
  pairs_push (a ∷ xs) [] x y p r = absurd p
  pairs_push (a ∷ xs) (b ∷ ys) x y p r = (p.0, pairs_push xs ys x y p.1 r)

  pub pairs_right : (G : Y → Type 0) (xs : List X) (ys : List Y) → Pairs R xs ys → ((x : X) (y : Y) → R x y → G y) → AllByRecursion G ys
  pairs_right G [] [] p go = tt
  pairs_right G [] (y ∷ ys) p go = absurd p
  pairs_right G (x ∷ xs) [] p go = absurd p
  pairs_right G (x ∷ xs) (y ∷ ys) p go = (go x y p.0, pairs_right G xs ys p.1 go)

  pub pairs_left : (G : X → Type 0) (xs : List X) (ys : List Y) → Pairs R xs ys → ((x : X) (y : Y) → R x y → G x) → AllByRecursion G xs
  pairs_left G [] [] p go = tt
  pairs_left G [] (y ∷ ys) p go = absurd p
  pairs_left G (x ∷ xs) [] p go = absurd p
  pairs_left G (x ∷ xs) (y ∷ ys) p go = (go x y p.0, pairs_left G xs ys p.1 go)

-- Q of each entry, from Q of the entries of each number
pub all_entries : (Q : Posting → Type 0) (n : ℕ) (log : List Posting) → ((x : ℕ) → x < n → AllByRecursion Q (entries_of (λ e. e.number) x log)) → AllByRecursion (λ e. e.number < n) log → AllByRecursion Q log
all_entries Q n [] each few = tt
all_entries Q n (e ∷ es) each few =
    let first : AllByRecursion Q (e ∷ entries_of (λ z. z.number) e.number es) = subst (λ b. AllByRecursion Q (cond b (e ∷ entries_of (λ z. z.number) e.number es) (entries_of (λ z. z.number) e.number es))) (nat_is e.number e.number refl) (each e.number few.0) in
    (first.0, all_entries Q n es (λ x less. rest x (e.number == x) (each x less)) few.1)
  where
    rest : (x : ℕ) (b : Bool) → AllByRecursion Q (cond b (e ∷ entries_of (λ z. z.number) x es) (entries_of (λ z. z.number) x es)) → AllByRecursion Q (entries_of (λ z. z.number) x es)
    rest x true h = h.1
    rest x false h = h

module _ {D : Type 0} (number : D → ℕ) (own : D → List Posting) where
  -- the own lists of the passes of a number are the log's entries of that number
  pub own_there : (Q : Posting → Type 0) (log : List Posting) (ds : List D) → AllByRecursion (λ d. own d ≡ entries_of (λ e. e.number) (number d) log) ds → AllByRecursion (λ d. AllByRecursion Q (own d)) ds
      → (x : ℕ) → 0 < count_by (λ d. number d == x) ds → AllByRecursion Q (entries_of (λ e. e.number) x log)
  own_there Q log [] is q x pos = absurd (omega (arith, pos))
  own_there Q log (d ∷ ds) is q x pos =
      dite (ℕ_discrete (number d) x)
      (λ same. subst (λ y. AllByRecursion Q (entries_of (λ e. e.number) y log)) same (subst (AllByRecursion Q) is.0 q.0))
      (λ other. own_there Q log ds is.1 q.1 x (let z : ◌≡◌ {A = ℕ} (cond (number d == x) 1 0) 0 = rw (nat_is_not (number d) x other) refl in omega (arith, z, pos, sum_by-cons (λ (c : D). cond (number c == x) 1 0) d ds)))

-- no entry of a tile that each entry is not of
pub none_of : (rule : ℕ → Bool) (k : ℕ) (log : List Posting) → AllByRecursion (λ e. rule e.tile ≡ false) log → rule k ≡ true → posts k log ≡ 0
none_of rule k [] h r = refl
none_of rule k (e ∷ es) h r =
    let no : e.tile ≢ k = λ same. true≢false (sym r ∙ (ap rule (sym same) ∙ h.0)) in
    let z : ◌≡◌ {A = ℕ} (cond (e.tile == k) 1 0) 0 = rw (nat_is_not e.tile k no) refl in
    omega (arith, z, none_of rule k es h.1 r, sum_by-cons (λ (y : ℕ). cond (y == k) 1 0) e.tile (tiles_in es))
