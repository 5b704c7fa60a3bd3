-- The rule of the lock as one reads it, over the two words, the slot and the views.
use Rattle.std.specs.Prelude.{ℕ, ◌+◌, ◌-◌, ◌≡◌, ◌≤◌, ◌<◌, ◌^◌, ◌%◌, true, false, List, [], ◌∷◌, count_by, slice_index, Option, Some}
use mathlib.Core.Option.{some}
use mathlib.Core.List.{IsPrefix}
use Rattle.std.specs.List.{AllByRecursion}
use Rattle.atomic_table.specs.Table.{State}
use Rattle.turn_lock.specs.declared.views.View.{View}
use Rattle.turn_lock.specs.declared.views.Mine.{Mine}
use Rattle.turn_lock.specs.Places.{StandsAt, Everywhere, AtOnePlace}
use Rattle.turn_lock.specs.Logs.{entries_of}
use Rattle.turn_lock.specs.Seats.{numbered}
use Rattle.turn_lock.specs.Kept.{IsSeen}

module _ {P E : Type 0} where
  -- the view keeps the count of the passes
  abbrev pub Counts : View P E → Type 0
  Counts v = 0 < v.made

  -- the view has an own list under that number
  abbrev pub HasNumber : ℕ → View P E → Type 0
  HasNumber number v = 0 < numbered number v.mine

  abbrev pub HoldsTicket : ℕ → View P E → Type 0
  HoldsTicket ticket v = (v.has ≡ true) × (v.ticket ≡ ticket)

  abbrev pub IsInTurn : View P E → Type 0
  IsInTurn v = v.turn ≡ true

  -- F holds of every pass of every view
  abbrev pub EachPass : (Mine P E → Type 0) → List (View P E) → Type 0
  EachPass F views = Everywhere (λ (v : View P E). AllByRecursion F v.mine) views

-- `total` passes were made, the tickets from `serving` on and below `ticket` are out, and `log` is the longest log that a view has seen
pub record IsOrderly {S P E : Type 0} (plan_of : S → P) (log_of : S → List E) (by : E → ℕ) (plan : P) (total ticket serving : ℕ) (log : List E) (s : State (Option S) (View P E)) : Type 0 where
  -- one view keeps how many passes were made, at most 4096
  pub keeper : AtOnePlace Counts s.views
  pub count : Everywhere (λ (v : View P E). Counts v → v.made ≡ total) s.views
  pub limit : total ≤ 4096
  -- each pass number below that count has exactly one own list, in exactly one view, and no other number has one
  pub number : (k : ℕ) → k < total → AtOnePlace (HasNumber k) s.views
  pub once : (k : ℕ) → Everywhere (λ (v : View P E). numbered k v.mine ≤ 1) s.views
  pub no_other : (k : ℕ) → Everywhere (λ (v : View P E). HasNumber k v → k < total) s.views
  -- the two words, less one another modulo 2^64, give how many views hold a ticket
  pub words : s.words ≡ ticket % 2 ^ 64 ∷ serving % 2 ^ 64 ∷ []
  pub out : (slice_index s.words 0 + 2 ^ 64 - slice_index s.words 1) % 2 ^ 64 ≡ count_by (λ (v : View P E). v.has) s.views
  -- the tickets held are those from serving on, each once
  pub held : (t : ℕ) → serving ≤ t → t < ticket → AtOnePlace (HoldsTicket t) s.views
  pub no_other_held : (t : ℕ) → Everywhere (λ (v : View P E). HoldsTicket t v → (serving ≤ t) × (t < ticket)) s.views
  -- a view in turn holds the ticket that is serving, and keeps the log of the value that it got; so at most one is in turn
  pub turn : Everywhere (λ (v : View P E). IsInTurn v → HoldsTicket serving v × (v.taken ≡ log)) s.views
  pub one_turn : (i j : ℕ) (v w : View P E) → StandsAt s.views i v → StandsAt s.views j w → IsInTurn v → IsInTurn w → i ≡ j
  -- every seen log is a beginning of the longest, and the longest is one of them
  pub seen : EachPass (λ m. IsPrefix m.seen log) s.views
  pub longest : IsSeen log s.views
  -- each entry has the number of a pass that was made, and each pass's own list is the log's entries under its number
  pub entries : AllByRecursion (λ e. by e < total) log
  pub own : EachPass (λ m. m.own ≡ entries_of by m.number log) s.views
  -- each view, and the value at home, carry the lock's plan; where no view is in turn, the slot is at home and full, and its value has the log
  pub carried : EachPass (λ m. m.plan ≡ plan) s.views
  pub home : Everywhere (λ (v : View P E). v.turn ≡ false) s.views → (x : S) × (s.homes ≡ some (Some x) ∷ []) × (plan_of x ≡ plan) × (log_of x ≡ log)
