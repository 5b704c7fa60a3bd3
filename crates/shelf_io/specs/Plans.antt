-- Which calls of an object in memory are to fail.
use Rattle.std.specs.Prelude.{◌≡◌, ◌↔◌, ℕ, ◌+◌, List, [], ◌∷◌, Result, Err, Contains, min, refl, slice_index_or, slice_set}
use Rattle.std.specs.Coded.{Coded, code_by, coded×, coded_ℕ, coded_list}
use Rattle.shelf_io.specs.declared.call.Call.{Call}
use Rattle.shelf_io.specs.declared.call.Call.TheVariants.{Length, Read, Begin, Append, Write, Send, Receive}
use Rattle.shelf_io.specs.declared.refused.Refused.{Refused}
use Rattle.shelf_io.specs.declared.refused.Refused.TheVariants.{Failed}
use Rattle.shelf_io.specs.Faults.{last_count}

-- the calls that are to fail, each by its kind and its number counted from 1; how many of each kind were made; and how many failed
pub record Planned : Type 0 where
  pub fail : List (Call × ℕ)
  pub made : List ℕ
  pub faults : ℕ

-- no call was made: seven kinds, each with none
abbrev pub fresh : List (Call × ℕ) → Planned
fresh fail = record { fail = fail; made = 0 ∷ 0 ∷ 0 ∷ 0 ∷ 0 ∷ 0 ∷ 0 ∷ []; faults = 0 }

-- the place of a kind of call among the seven counts
abbrev pub place_of_call : Call → ℕ
place_of_call Length = 0
place_of_call Read = 1
place_of_call Begin = 2
place_of_call Append = 3
place_of_call Write = 4
place_of_call Send = 5
place_of_call Receive = 6

-- the number of the next call of a kind
abbrev pub next_number : Call → Planned → ℕ
next_number call plan = min (slice_index_or plan.made (place_of_call call) 0 + 1) last_count

-- the next call of a kind is to fail
abbrev pub IsDue : Call → Planned → Type 0
IsDue call plan = Contains plan.fail (call, next_number call plan)

-- a call was made: it is counted, and what is to fail stays
pub record WasMade (call : Call) (before now : Planned) : Type 0 where
  pub counted : now.made ≡ slice_set before.made (place_of_call call) (next_number call before)
  pub kept : now.fail ≡ before.fail

-- a call follows the plan: it was made, and it failed exactly where it was due
pub record Follows {T : Type 0} (call : Call) (before now : Planned) (result : Result T Refused) : Type 0 where
  pub made : WasMade call before now
  pub failed : (result ≡ Err Failed) ↔ IsDue call before

-- a plan is stored as its three fields
abbrev pub planned_code : Coded Call → Coded Planned
planned_code call =
    code_by ((List (Call × ℕ) × List ℕ) × ℕ) (coded× (coded× (coded_list (coded× call coded_ℕ)) (coded_list coded_ℕ)) coded_ℕ)
    (λ p. ((p.fail, p.made), p.faults)) (λ q. record { fail = q.0.0; made = q.0.1; faults = q.1 }) (λ _. refl)
