-- The rows after their first passes were handed in.
use Rattle.std.proofs.Common.{◌≡◌, List, [], ◌∷◌, length, drop, ap, arith}
use Rattle.std.specs.List.{AllByRecursion}
use Rattle.turn_lock.specs.Seen.{LockId, PassSeen}
use Rattle.lock_row.specs.Rows.{locks_of}
use Rattle.lock_row.specs.Columns.{tails}

module _ {P E : Type 0} (lock : LockId P) (locks : List (LockId P)) where
  rest_of : (row : List (PassSeen P E)) → locks_of row ≡ lock ∷ locks → locks_of (drop 1 row) ≡ locks
  rest_of [] e = absurd (let n = ap length e in omega (arith, n))
  rest_of (x ∷ xs) e = ap (drop 1) e

  -- each row is of the locks that are left
  pub tails_of_locks : (rows : List (List (PassSeen P E))) → AllByRecursion (λ row. locks_of row ≡ lock ∷ locks) rows → AllByRecursion (λ row. locks_of row ≡ locks) (tails rows)
  tails_of_locks [] all = tt
  tails_of_locks (row ∷ rows) all = (rest_of row all.0, tails_of_locks rows all.1)
