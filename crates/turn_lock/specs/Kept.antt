-- The rule that each step of the lock keeps, in totals over all views: it says more than the rule of specs/Rule.antt, so that it carries itself from step to step.
use Rattle.std.specs.Prelude.{ℕ, ◌+◌, ◌≡◌, ◌≤◌, ◌<◌, ◌^◌, ◌%◌, ◌⊎◌, ◌==◌, ◌&&◌, true, nat_lt, nat_le, List, [], ◌∷◌, length, sum_by, cond, Option, Some}
use mathlib.Core.Option.{some}
use Rattle.std.specs.List.{AllByRecursion}
use Rattle.atomic_table.specs.Table.{State}
use Rattle.turn_lock.specs.declared.views.View.{View}
use Rattle.turn_lock.specs.declared.views.Mine.{Mine}
use Rattle.turn_lock.specs.Places.{once_below, StandsAt, Everywhere}
use Rattle.turn_lock.specs.Seats.{numbered, Knows}

-- 1 for a number from the first on and below the second, and 0 for another
abbrev pub between : ℕ → ℕ → ℕ → ℕ
between low high x = cond (nat_le low x && nat_lt x high) 1 0

module _ {P E : Type 0} where
  -- 1 where the view holds that ticket
  abbrev pub holds_ticket : ℕ → View P E → ℕ
  holds_ticket ticket v = cond (v.has && (v.ticket == ticket)) 1 0

  -- 1 where the view holds a ticket
  abbrev pub has_one : View P E → ℕ
  has_one v = cond v.has 1 0

  -- 1 where the view is in turn
  abbrev pub in_turn : View P E → ℕ
  in_turn v = cond v.turn 1 0

  -- one of the passes has seen the whole log
  abbrev pub Saw : List E → List (Mine P E) → Type 0
  Saw log [] = ⊥
  Saw log (m ∷ ms) = (m.seen ≡ log) ⊎ Saw log ms

  -- one of all passes has seen the whole log
  abbrev pub IsSeen : List E → List (View P E) → Type 0
  IsSeen log views = (id : ℕ) × (v : View P E) × StandsAt views id v × Saw log v.mine

  -- one view in a lock with so many passes made, that ticket in turn and that log
  pub record Fits (by : E → ℕ) (plan : P) (total serving : ℕ) (log : List E) (v : View P E) : Type 0 where
    -- a ticket needs a pass
    pub has : cond v.has 1 0 ≤ length v.mine
    -- the view that keeps the count keeps the right one
    pub made : 0 < v.made → v.made ≡ total
    pub turn : v.turn ≡ true → (v.has ≡ true) × (v.ticket ≡ serving) × (v.taken ≡ log)
    pub mine : AllByRecursion (Knows by plan log) v.mine

-- The total is how many passes were made; tickets and serving are counted without end, and the words are their remainders; the log is the longest that was seen
pub record IsKept {S P E : Type 0} (plan_of : S → P) (log_of : S → List E) (by : E → ℕ) (plan : P) (passes total ticket serving : ℕ) (log : List E) (s : State (Option S) (View P E)) : Type 0 where
  pub words : s.words ≡ ticket % 2 ^ 64 ∷ serving % 2 ^ 64 ∷ []
  pub few : (total ≤ passes) × (passes ≤ 4096)
  -- one view keeps the count
  pub made : sum_by (λ (v : View P E). v.made) s.views ≡ total
  pub lists : sum_by (λ (v : View P E). length v.mine) s.views ≡ total
  -- each number below the count is one pass's
  pub numbers : (number : ℕ) → sum_by (λ (v : View P E). numbered number v.mine) s.views ≡ once_below number total
  pub count : ticket ≡ serving + sum_by has_one s.views
  -- each ticket from serving on is one view's
  pub tickets : (t : ℕ) → sum_by (holds_ticket t) s.views ≡ between serving ticket t
  pub fit : Everywhere (Fits by plan total serving log) s.views
  pub longest : IsSeen log s.views
  pub entries : AllByRecursion (λ e. by e < total) log
  -- where no view is in turn, the slot is at home with a value of the plan and the log
  pub home : sum_by in_turn s.views ≡ 0 → (x : S) × (s.homes ≡ some (Some x) ∷ []) × (plan_of x ≡ plan) × (log_of x ≡ log)

module _ {S P E : Type 0} (plan_of : S → P) (log_of : S → List E) (by : E → ℕ) where
  -- the rule of a lock with that plan and at most so many passes
  abbrev pub Kept : P → ℕ → State (Option S) (View P E) → Type 0
  Kept plan passes s = (total : ℕ) × (ticket : ℕ) × (serving : ℕ) × (log : List E) × IsKept plan_of log_of by plan passes total ticket serving log s

  -- what whoever has every pass learns of the value at the end: it has the plan, the passes know its whole log, each number below their count is one pass's, and each entry has such a number
  pub record IsWhole (plan : P) (passes : ℕ) (mine : List (Mine P E)) (x : S) : Type 0 where
    pub planned : plan_of x ≡ plan
    pub known : AllByRecursion (Knows by plan (log_of x)) mine
    pub numbers : (number : ℕ) → numbered number mine ≡ once_below number passes
    pub entries : AllByRecursion (λ e. by e < passes) (log_of x)
