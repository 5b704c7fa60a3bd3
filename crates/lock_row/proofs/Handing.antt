-- The rows while their first passes are handed in, the last row's first.
use Rattle.std.proofs.Common.{◌≡◌, ℕ, zero, suc, ◌<◌, ◌≤◌, List, [], ◌∷◌, ◌++◌, length, take, drop, get_or, set, refl, sym, ap, ◌∙◌, subst, arith}
use Rattle.std.specs.List.{AllByRecursion}
use mathlib.Core.List.{IsPrefix}
use Rattle.turn_lock.specs.Places.{NumberedOnce}
use Rattle.turn_lock.specs.Logs.{entries_of}
use Rattle.turn_lock.specs.Seen.{LockId, PassSeen}
use Rattle.turn_lock.specs.Ends.{EndingSeen}
use Rattle.lock_row.specs.Rows.{locks_of}
use Rattle.lock_row.specs.Columns.{heads, tails, IsClosed}

module _ {X : Type 0} where
  -- the rows from k on have handed their first in
  abbrev pub HandedFrom : ℕ → List (List X) → List (List X) → Type 0
  HandedFrom k first rows = (k ≤ length first) × (rows ≡ take k first ++ tails (drop k first))

  pub none_handed : (k : ℕ) (first : List (List X)) → length first ≡ k → HandedFrom k first first
  none_handed k first e = subst (λ n. HandedFrom n first first) e (omega arith, go first)
    where
      go : (rs : List (List X)) → rs ≡ take (length rs) rs ++ tails (drop (length rs) rs)
      go [] = refl
      go (r ∷ rs) = ap (λ l. r ∷ l) (go rs)

  row_there : (j : ℕ) (first T : List (List X)) (row : List X) → j < length first → row ≡ get_or (take (suc j) first ++ T) j row → drop j first ≡ row ∷ drop (suc j) first
  row_there j [] T row lt is = absurd (omega (arith, lt))
  row_there zero (r ∷ rs) T row lt is = ap (λ l. l ∷ rs) (sym is)
  row_there (suc j) (r ∷ rs) T row lt is = row_there j rs T row (omega (arith, lt)) is

  set_there : (j : ℕ) (first T : List (List X)) (xs : List X) → j < length first → set (take (suc j) first ++ T) j xs ≡ take j first ++ xs ∷ T
  set_there j [] T xs lt = absurd (omega (arith, lt))
  set_there zero (r ∷ rs) T xs lt = refl
  set_there (suc j) (r ∷ rs) T xs lt = ap (λ l. r ∷ l) (set_there j rs T xs (omega (arith, lt)))

  each_there : (F : List X → Type 0) (j : ℕ) (first T : List (List X)) (row : List X) → AllByRecursion F first → j < length first → row ≡ get_or (take (suc j) first ++ T) j row → F row
  each_there F j [] T row all lt is = absurd (omega (arith, lt))
  each_there F zero (r ∷ rs) T row all lt is = subst F (sym is) all.0
  each_there F (suc j) (r ∷ rs) T row all lt is = each_there F j rs T row all.1 (omega (arith, lt)) is

  module _ (k j : ℕ) (first rows : List (List X)) (row : List X) (h : HandedFrom k first rows) (next : suc j ≡ k) (at : row ≡ get_or rows j row) where
    within : j < length first
    within = omega (arith, h.0, next)

    now : rows ≡ take (suc j) first ++ tails (drop (suc j) first)
    now = h.1 ∙ sym (ap (λ n. take n first ++ tails (drop n first)) next)

    at_now : row ≡ get_or (take (suc j) first ++ tails (drop (suc j) first)) j row
    at_now = at ∙ ap (λ l. get_or l j row) now

    pub row_has : (F : List X → Type 0) → AllByRecursion F first → F row
    row_has F all = each_there F j first (tails (drop (suc j) first)) row all within at_now

    -- one more row
    pub handed_rows : (x : X) (xs : List X) (new : List (List X)) → row ≡ x ∷ xs → new ≡ set rows j xs → HandedFrom j first new
    handed_rows x xs new is put =
        let there = row_there j first (tails (drop (suc j) first)) row within at_now ∙ ap (λ l. l ∷ drop (suc j) first) is in (
          omega (arith, h.0, next),
          put ∙ ap (λ l. set l j xs) now ∙ set_there j first (tails (drop (suc j) first)) xs within ∙ ap (λ l. take j first ++ tails l) (sym there),
        )

    pub handed_heads : (x : X) (xs : List X) → row ≡ x ∷ xs → x ∷ heads (drop k first) ≡ heads (drop j first)
    handed_heads x xs is =
        let there = row_there j first (tails (drop (suc j) first)) row within at_now ∙ ap (λ l. l ∷ drop (suc j) first) is in
        ap (λ n. x ∷ heads (drop n first)) (sym next) ∙ sym (ap heads there)

module _ {P E : Type 0} (lock : LockId P) (row : List (PassSeen P E)) where
  pub has_first : take 1 (locks_of row) ≡ lock ∷ [] → 0 < length row
  has_first e = go row e
    where
      go : (r : List (PassSeen P E)) → take 1 (locks_of r) ≡ lock ∷ [] → 0 < length r
      go [] e = absurd (let n = ap length e in omega (arith, n))
      go (x ∷ xs) e = omega arith

  pub first_lock : (pass : PassSeen P E) (rest : List (PassSeen P E)) → row ≡ pass ∷ rest → take 1 (locks_of row) ≡ lock ∷ [] → pass.lock ≡ lock
  first_lock pass rest is e = ap (λ l. get_or l 0 lock) (sym (ap (λ r. take 1 (locks_of r)) is) ∙ e)

pub none_heads : {X : Type 0} (k : ℕ) (first : List (List X)) → length first ≡ k → heads (drop k first) ≡ []
none_heads k first e = subst (λ n. heads (drop n first) ≡ []) e (go first)
  where
    go : {X : Type 0} (rs : List (List X)) → heads (drop (length rs) rs) ≡ []
    go [] = refl
    go (r ∷ rs) = go rs

pub heads_long : {P E : Type 0} (lock : LockId P) (rows : List (List (PassSeen P E))) → AllByRecursion (λ row. take 1 (locks_of row) ≡ lock ∷ []) rows → length (heads rows) ≡ length rows
heads_long lock [] all = refl
heads_long lock ([] ∷ rows) all = absurd (let n = ap length all.0 in omega (arith, n))
heads_long lock ((x ∷ xs) ∷ rows) all = ap suc (heads_long lock rows all.1)

-- what is told of a lock that was ended with the first of each row
pub closed_with : {S P E : Type 0} (plan_of : S → P) (log_of : S → List E) (by : E → ℕ) (ending is : EndingSeen P E) (x : S) → ending ≡ is
    → plan_of x ≡ ending.lock.plan → AllByRecursion (λ pass. IsPrefix pass.seen (log_of x)) ending.handed → AllByRecursion (λ pass. pass.own ≡ entries_of by pass.number (log_of x)) ending.handed
    → NumberedOnce (λ pass. pass.number) ending.handed → AllByRecursion (λ entry. by entry < length ending.handed) (log_of x) → IsClosed plan_of log_of by is.lock.plan is.handed x
closed_with plan_of log_of by ending is x e plan seen own numbers entries =
    subst (λ (n : EndingSeen _ _). IsClosed plan_of log_of by n.lock.plan n.handed x) e
    (record { planned = plan; seen = seen; own = own; numbers = numbers; entries = entries })
