-- What the laws of the lock say: the kept rule gives the rule that one reads, and each of the seven kinds of step keeps it.
use Rattle.std.specs.Prelude.{ℕ, ◌+◌, ◌≡◌, ◌<◌, ◌≤◌, ◌^◌, ◌%◌, true, List, [], ◌∷◌, Option, Some}
use mathlib.Core.Option.{Option as Home}
use Rattle.atomic_table.specs.Table.{State, Allows, Splits, Joins, opening}
use Rattle.turn_lock.specs.declared.views.View.{View}
use Rattle.turn_lock.specs.declared.views.Mine.{Mine}
use Rattle.turn_lock.specs.Places.{StandsAt}
use Rattle.turn_lock.specs.Logs.{GrewBy}
use Rattle.turn_lock.specs.Seats.{resting, waiting, inside, spent, new_pass, counts_on, newcomer, both, Draws, Watches, Leaves}
use Rattle.turn_lock.specs.Kept.{Kept}
use Rattle.turn_lock.specs.Rule.{IsOrderly}

module _ {S P E : Type 0} (plan_of : S → P) (log_of : S → List E) (by : E → ℕ) where
  -- every state that meets the kept rule is orderly
  abbrev pub KeptIsOrderly : Type 0
  KeptIsOrderly = (plan : P) (passes : ℕ) (s : State (Option S) (View P E)) → Kept plan_of log_of by plan passes s
      → (total : ℕ) × (ticket : ℕ) × (serving : ℕ) × (log : List E) × IsOrderly plan_of log_of by plan total ticket serving log s

  -- a new lock: both words 0, the value at home with an empty log, and the seat of pass 0, which keeps the count
  abbrev pub StartKeeps : Type 0
  StartKeeps = (passes : ℕ) (x : S) → 0 < passes → passes ≤ 4096 → log_of x ≡ []
      → Kept plan_of log_of by (plan_of x) passes (opening (0 ∷ 0 ∷ []) (Some x ∷ []) (resting 1 (new_pass 0 (plan_of x) [] ∷ [])))

  -- ticket: a seat with a pass, outside the lock, adds 1 to the first word; its own view alone changes, and has a ticket whose remainder was found there
  abbrev pub TicketKeeps : Type 0
  TicketKeeps = (plan : P) (passes id made : ℕ) (m : Mine P E) (ms : List (Mine P E))
      → Allows (Kept plan_of log_of by plan passes) 1 id (resting made (m ∷ ms), []) 0 (λ found. (found + 1) % 2 ^ 64) (Draws {S = S} (resting made (m ∷ ms), []))

  -- watch: a seat with a ticket reads the second word; its own view alone changes, and only where its ticket was found: then it is in turn, and the slot with the value is its own
  abbrev pub WatchKeeps : Type 0
  WatchKeeps = (plan : P) (passes id made ticket : ℕ) (mine : List (Mine P E))
      → Allows (Kept plan_of log_of by plan passes) 1 id (waiting made mine ticket, []) 1 (λ found. found) (Watches plan_of log_of by (waiting made mine ticket, []))

  -- slot out and slot in: while a view is in turn, the rule says nothing of the slot, so it stands whatever becomes of it; words and views are as before
  abbrev pub SlotKeeps : Type 0
  SlotKeeps = (plan : P) (passes id : ℕ) (v : View P E) (s : State (Option S) (View P E)) (homes : List (Home (Option S)))
      → Kept plan_of log_of by plan passes s → StandsAt s.views id v → v.turn ≡ true
      → Kept plan_of log_of by plan passes (record { words = s.words; homes = homes; views = s.views })

  -- leave: a seat in turn, with a value in the slot that has the lock's plan and whose log is the taken one followed by entries of the pass's number, adds 1 to the second word;
  -- its own view alone changes: it has no ticket, has seen the value's log, and what is new there is the pass's own
  abbrev pub LeaveKeeps : Type 0
  LeaveKeeps = (plan : P) (passes id made ticket : ℕ) (m : Mine P E) (taken : List E) (x : S)
      → plan_of x ≡ plan → m.plan ≡ plan → GrewBy by m.number taken (log_of x)
      → Allows (Kept plan_of log_of by plan passes) 1 id (inside made (m ∷ []) ticket taken, (0, Some x) ∷ []) 1 (λ found. (found + 1) % 2 ^ 64)
      (Leaves log_of (inside made (m ∷ []) ticket taken, (0, Some x) ∷ []))

  -- split: the seat that keeps the count, below the lock's number of passes, makes a seat with a pass of that number and counts on
  abbrev pub SplitKeeps : Type 0
  SplitKeeps = (plan : P) (passes id made : ℕ) (m : Mine P E) → 0 < made → made < passes
      → Splits {S = Option S} (Kept plan_of log_of by plan passes) id (resting made (m ∷ [])) (counts_on (resting made (m ∷ []))) (newcomer (resting made (m ∷ [])))

  -- join: of two seats without a ticket the first gets the own lists and the seen logs of both, the longer too, and the count where either has it, and the other is spent
  abbrev pub JoinKeeps : Type 0
  JoinKeeps = (plan : P) (passes id other made theirs : ℕ) (ms ns : List (Mine P E))
      → Joins {S = Option S} (Kept plan_of log_of by plan passes) id (resting made ms) other (resting theirs ns) (both (resting made ms) (resting theirs ns)) spent
