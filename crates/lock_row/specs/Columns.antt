-- Rows and columns: what stands first in each row, and what is left of each.
use Rattle.std.specs.Prelude.{ℕ, ◌≡◌, ◌<◌, List, [], ◌∷◌, ◌++◌, length, map, drop}
use Rattle.std.specs.List.{AllByRecursion}
use mathlib.Core.List.{IsPrefix}
use Rattle.turn_lock.specs.Places.{NumberedOnce}
use Rattle.turn_lock.specs.Logs.{entries_of}
use Rattle.turn_lock.specs.Seen.{LockId, PassSeen}

module _ {X : Type 0} where
  -- the first of each row
  abbrev pub heads : List (List X) → List X
  heads [] = []
  heads ([] ∷ rows) = heads rows
  heads ((x ∷ xs) ∷ rows) = x ∷ heads rows

  -- each row without its first
  abbrev pub tails : List (List X) → List (List X)
  tails rows = map (drop 1) rows

  -- what stands at that place, counted from 0, in each row that is long enough
  abbrev pub column : ℕ → List (List X) → List X
  column place rows = heads (map (drop place) rows)

  -- one more at the end of each row
  abbrev pub each_more : List X → List (List X) → List (List X)
  each_more [] rows = rows
  each_more (x ∷ xs) [] = []
  each_more (x ∷ xs) (row ∷ rows) = (row ++ x ∷ []) ∷ each_more xs rows

-- what is known of a value whose lock was closed with those passes: it has the lock's plan, what each pass has seen begins its log, each pass's own entries
-- are its log's of that number, the passes' numbers are those below their count, each once, and every entry of the log has one of them
pub record IsClosed {S P E : Type 0} (plan_of : S → P) (log_of : S → List E) (by : E → ℕ) (plan : P) (column : List (PassSeen P E)) (x : S) : Type 0 where
  pub planned : plan_of x ≡ plan
  pub seen : AllByRecursion (λ pass. IsPrefix pass.seen (log_of x)) column
  pub own : AllByRecursion (λ pass. pass.own ≡ entries_of by pass.number (log_of x)) column
  pub numbers : NumberedOnce (λ pass. pass.number) column
  pub entries : AllByRecursion (λ entry. by entry < length column) (log_of x)

module _ {S P E : Type 0} (plan_of : S → P) (log_of : S → List E) (by : E → ℕ) where
  -- the locks of a row were closed in order, each with the first pass of each row, and gave these values back
  abbrev pub AreClosed : List (LockId P) → List (List (PassSeen P E)) → List S → Type 0
  AreClosed [] rows [] = Unit
  AreClosed [] rows (x ∷ xs) = ⊥
  AreClosed (lock ∷ locks) rows [] = ⊥
  AreClosed (lock ∷ locks) rows (x ∷ xs) = IsClosed plan_of log_of by lock.plan (heads rows) x × AreClosed locks (tails rows) xs

  -- the first lock of a row was closed with its column of the passes, and the rest of the row is left
  abbrev pub ClosedFirst : List (LockId P) → List (List (PassSeen P E)) → S → List (LockId P) → Type 0
  ClosedFirst locks rows x left = (lock : LockId P) × (locks ≡ lock ∷ left) × IsClosed plan_of log_of by lock.plan (heads rows) x
