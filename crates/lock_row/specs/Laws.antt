-- The laws of a turn at a row, and of a row that was closed lock by lock.
use Rattle.std.specs.Prelude.{ℕ, ◌≡◌, List, ◌∷◌, ◌++◌}
use mathlib.Core.List.{IsPrefix}
use Rattle.turn_lock.specs.Places.{StandsAt}
use Rattle.turn_lock.specs.Logs.{entries_of}
use Rattle.turn_lock.specs.Seen.{LockId, PassSeen, pass_after}
use Rattle.lock_row.specs.Rows.{RowTurnSeen, Takes, TookTurn}
use Rattle.lock_row.specs.Columns.{column, tails, IsClosed, AreClosed, ClosedFirst}

-- a take and the give after it are one turn of the pass
abbrev pub IsOneTurn : {E : Type 0} (P : Type 0) → (E → ℕ) → Type 0
IsOneTurn {E} P by = (place : ℕ) (pass new : List (PassSeen P E)) (taken now : List E) (t : RowTurnSeen P E)
    → (takes : Takes by place pass taken t) → new ≡ t.before ++ pass_after t.turn now ∷ t.after → TookTurn by place pass takes.one taken now new

module _ {S P E : Type 0} (plan_of : S → P) (log_of : S → List E) (by : E → ℕ) where
  -- the first lock and then the rest closed in order are all closed in order
  abbrev pub OneByOne : Type 0
  OneByOne = (locks left : List (LockId P)) (rows : List (List (PassSeen P E))) (x : S) (xs : List S)
      → ClosedFirst plan_of log_of by locks rows x left → AreClosed plan_of log_of by left (tails rows) xs → AreClosed plan_of log_of by locks rows (x ∷ xs)

  -- of locks closed in order the one at each place was closed with what stands at that place in each row
  abbrev pub AtEachPlace : Type 0
  AtEachPlace = (locks : List (LockId P)) (rows : List (List (PassSeen P E))) (xs : List S) (place : ℕ) (lock : LockId P) (x : S)
      → AreClosed plan_of log_of by locks rows xs → StandsAt locks place lock → StandsAt xs place x → IsClosed plan_of log_of by lock.plan (column place rows) x

  -- where a value was closed with a column, what each row's pass at that place has seen begins the value's log, and its own entries are that log's of its number
  abbrev pub OfEachRow : Type 0
  OfEachRow = (plan : P) (rows : List (List (PassSeen P E))) (n place : ℕ) (row : List (PassSeen P E)) (pass : PassSeen P E) (x : S)
      → IsClosed plan_of log_of by plan (column place rows) x → StandsAt rows n row → StandsAt row place pass
      → IsPrefix pass.seen (log_of x) × (pass.own ≡ entries_of by pass.number (log_of x))
