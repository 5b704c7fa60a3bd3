-- Rows and columns by place: what is told of a lock at a place is told of each row's pass at that place.
use Rattle.std.proofs.Common.{◌≡◌, ℕ, zero, suc, List, [], ◌∷◌, drop, map, refl, sym, ap, subst}
use mathlib.Core.List.{IsPrefix}
use Rattle.turn_lock.specs.Places.{StandsAt}
use Rattle.turn_lock.specs.Logs.{entries_of}
use Rattle.lock_row.specs.Columns.{heads, tails, column, IsClosed, AreClosed}
use Rattle.lock_row.specs.Laws.{OneByOne, AtEachPlace, OfEachRow}
use Rattle.lock_row.proofs.Cuts.{each_stands}

module _ {X : Type 0} where
  drop_more : (place : ℕ) (row : List X) → drop place (drop 1 row) ≡ drop (suc place) row
  drop_more zero [] = refl
  drop_more (suc place) [] = refl
  drop_more place (x ∷ xs) = refl

  drops_none : (rows : List (List X)) → map (drop 0) rows ≡ rows
  drops_none [] = refl
  drops_none (row ∷ rows) = ap (λ l. row ∷ l) (drops_none rows)

  drops_more : (place : ℕ) (rows : List (List X)) → map (drop place) (tails rows) ≡ map (drop (suc place)) rows
  drops_more place [] = refl
  drops_more place (row ∷ rows) = λ i. drop_more place row i ∷ drops_more place rows i

  head_there : (place : ℕ) (row : List X) (x : X) → StandsAt row place x → (rest : List X) × (drop place row ≡ x ∷ rest)
  head_there place [] x e = cc
  head_there zero (y ∷ ys) x e = let same : y ≡ x = cc in (ys, ap (λ z. z ∷ ys) same)
  head_there (suc place) (y ∷ ys) x e = head_there place ys x e

  here_or_later : (front : List X) (rows : List (List X)) (x : X) → (i : ℕ) × StandsAt (heads rows) i x → (i : ℕ) × StandsAt (heads (front ∷ rows)) i x
  here_or_later [] rows x h = h
  here_or_later (y ∷ ys) rows x h = (suc h.0, h.1)

  -- what stands at a place of a row stands in the column of that place
  pub in_column : (rows : List (List X)) (n place : ℕ) (row : List X) (x : X) → StandsAt rows n row → StandsAt row place x → (i : ℕ) × StandsAt (column place rows) i x
  in_column [] n place row x e f = cc
  in_column (r ∷ rows) zero place row x e f =
      let same : r ≡ row = cc in
      let there = head_there place r x (subst (λ l. StandsAt l place x) (sym same) f) in
      subst (λ l. (i : ℕ) × StandsAt (heads (l ∷ map (drop place) rows)) i x) (sym there.1) (0, refl)
  in_column (r ∷ rows) (suc n) place row x e f = here_or_later (drop place r) (map (drop place) rows) x (in_column rows n place row x e f)

module _ {S P E : Type 0} (plan_of : S → P) (log_of : S → List E) (by : E → ℕ) where
  pub one_by_one : OneByOne plan_of log_of by
  one_by_one locks left rows x xs first rest =
      subst (λ l. AreClosed plan_of log_of by l rows (x ∷ xs)) (sym first.1) (first.2, rest)

  -- the value at a place was closed with the column of that place
  pub closed_at : AtEachPlace plan_of log_of by
  closed_at [] rows xs place lock x h e f = cc
  closed_at (l ∷ ls) rows [] place lock x h e f = absurd h
  closed_at (l ∷ ls) rows (y ∷ ys) zero lock x h e f =
      let one : l ≡ lock = cc in
      let two : y ≡ x = cc in
      subst (λ r. IsClosed plan_of log_of by lock.plan (heads r) x) (sym (drops_none rows))
      (subst (λ v. IsClosed plan_of log_of by lock.plan (heads rows) v) two (subst (λ k. IsClosed plan_of log_of by k.plan (heads rows) y) one h.0))
  closed_at (l ∷ ls) rows (y ∷ ys) (suc place) lock x h e f =
      subst (λ r. IsClosed plan_of log_of by lock.plan (heads r) x) (drops_more place rows) (closed_at ls (tails rows) ys place lock x h.1 e f)

  -- what a pass saw of a lock begins that lock's last log, and its own entries there are that log's of its number
  pub pass_at : OfEachRow plan_of log_of by
  pass_at plan rows n place row pass x h e f =
      let there = in_column rows n place row pass e f in (
        each_stands (λ p. IsPrefix p.seen (log_of x)) (column place rows) there.0 pass h.seen there.1,
        each_stands (λ p. p.own ≡ entries_of by p.number (log_of x)) (column place rows) there.0 pass h.own there.1,
      )
