-- What a seat knows of its passes, and what each step of the lock makes of it.
use Rattle.std.specs.Prelude.{ℕ, ◌+◌, ◌≡◌, ◌^◌, ◌%◌, ◌==◌, true, false, List, [], ◌∷◌, ◌++◌, length, drop, map, count_by, Option, Some, None, MatchBool}
use native.Mathlib.Nat.{suc-ne-zero}
use mathlib.Core.List.{IsPrefix}
use Rattle.std.specs.List.{AllByRecursion}
use Rattle.atomic_table.specs.Table.{Me}
use Rattle.turn_lock.specs.declared.views.View.{View}
use Rattle.turn_lock.specs.declared.views.Mine.{Mine}
use Rattle.turn_lock.specs.Logs.{entries_of}
use Rattle.turn_lock.specs.Seen.{PassSeen}

module _ {P E : Type 0} where
  -- outside the lock; made is the count of all passes where this seat keeps it, and else 0
  abbrev pub resting : ℕ → List (Mine P E) → View P E
  resting made mine = record { made = made; mine = mine; has = false; ticket = 0; turn = false; taken = [] }

  -- with a ticket, not in turn
  abbrev pub waiting : ℕ → List (Mine P E) → ℕ → View P E
  waiting made mine ticket = record { made = made; mine = mine; has = true; ticket = ticket; turn = false; taken = [] }

  -- in turn, with the log of the value that it was handed
  abbrev pub inside : ℕ → List (Mine P E) → ℕ → List E → View P E
  inside made mine ticket taken = record { made = made; mine = mine; has = true; ticket = ticket; turn = true; taken = taken }

  -- after its passes went to another seat
  abbrev pub spent : View P E
  spent = resting 0 []

  -- a pass with no entry, which has seen that log
  abbrev pub new_pass : ℕ → P → List E → Mine P E
  new_pass number plan seen = record { number = number; plan = plan; seen = seen; own = [] }

  -- how many of the passes have the number
  abbrev pub numbered : ℕ → List (Mine P E) → ℕ
  numbered number mine = count_by (λ m. m.number == number) mine

  -- what a pass knows of a log: it has the plan, has seen a beginning of the log, and its own entries are the log's of its number
  abbrev pub Knows : (E → ℕ) → P → List E → Mine P E → Type 0
  Knows by plan log m = (m.plan ≡ plan) × IsPrefix m.seen log × (m.own ≡ entries_of by m.number log)

  -- a pass as the seat keeps it
  abbrev pub mine_of : PassSeen P E → Mine P E
  mine_of pass = record { number = pass.number; plan = pass.lock.plan; seen = pass.seen; own = pass.own }

  -- the number, the plan, the seen log and the own entries of a seat's one pass
  abbrev pub number_of : List (Mine P E) → ℕ
  number_of [] = 0
  number_of (m ∷ ms) = m.number

  abbrev pub plan_of : (mine : List (Mine P E)) → 1 ≡ length mine → P
  plan_of [] one = absurd (suc-ne-zero 0 one)
  plan_of (m ∷ ms) one = m.plan

  abbrev pub seen_of : List (Mine P E) → List E
  seen_of [] = []
  seen_of (m ∷ ms) = m.seen

  abbrev pub own_of : List (Mine P E) → List E
  own_of [] = []
  own_of (m ∷ ms) = m.own

  -- the seat has one pass, and it has the plan
  abbrev pub HasPlan : P → List (Mine P E) → Type 0
  HasPlan plan mine = map (λ m. m.plan) mine ≡ plan ∷ []

  -- split: the seat that keeps the count raises it by 1
  abbrev pub counts_on : View P E → View P E
  counts_on v = resting (v.made + 1) v.mine

  -- split: the new seat's pass has the count as its number, and has seen what the first seat has
  abbrev pub newcomer : View P E → View P E
  newcomer v = resting 0 (map (λ m. new_pass v.made m.plan m.seen) v.mine)

  -- join: the passes of both, and the count where either keeps it
  abbrev pub both : View P E → View P E → View P E
  both v w = resting (v.made + w.made) (w.mine ++ v.mine)

  -- leave: the pass after it gave back a value with the log `now`, having taken the log `taken`
  abbrev pub gave : List E → List E → Mine P E → Mine P E
  gave taken now m = record { number = m.number; plan = m.plan; seen = now; own = m.own ++ drop (length taken) now }

-- the log of the value in the first of the carried slots
abbrev pub log_there : {S E : Type 0} → (S → List E) → Option S → List E
log_there log None = []
log_there log (Some x) = log x

abbrev pub log_carried : {S E : Type 0} → (S → List E) → List (ℕ × Option S) → List E
log_carried log [] = []
log_carried log (slot ∷ slots) = log_there log slot.1

module _ {S P E : Type 0} where
  -- ticket: the seat has a ticket whose remainder is the number found
  abbrev pub Draws : Me (Option S) (View P E) → ℕ → Me (Option S) (View P E) → Type 0
  Draws me found new = (ticket : ℕ) × (ticket % 2 ^ 64 ≡ found) × (new ≡ (waiting me.0.made me.0.mine ticket, me.1))

  -- watch: where the seat's ticket is found, the seat is in turn and holds the slot with a value, of which its passes know; else it is as before
  abbrev pub Watches : (S → P) → (S → List E) → (E → ℕ) → Me (Option S) (View P E) → ℕ → Me (Option S) (View P E) → Type 0
  Watches plan log by me found new =
      MatchBool (me.0.ticket % 2 ^ 64 == found)
      ((x : S) × (new ≡ (inside me.0.made me.0.mine me.0.ticket (log x), (0, Some x) ∷ [])) × AllByRecursion (Knows by (plan x) (log x)) me.0.mine)
      (new ≡ me)

  -- leave: the seat has no ticket and no slot, its passes have seen the log in the slot, and what is new there is theirs
  abbrev pub Leaves : (S → List E) → Me (Option S) (View P E) → ℕ → Me (Option S) (View P E) → Type 0
  Leaves log me found new = new ≡ (resting me.0.made (map (gave me.0.taken (log_carried log me.1)) me.0.mine), [])
