-- Phases, as the program keeps them.
use Rattle.std.specs.Prelude.{◌≡◌, ℕ, suc, ◌*◌, ◌<◌, ◌≤◌, ◌^◌, Bool, List, length, map}
use Rattle.std.specs.List.{All}
use Rattle.definitions.specs.declared.Side.{Side}
use Rattle.walk_definitions.specs.Reports.{Report, held}
use Rattle.core_definitions.specs.Phase as phase
use Rattle.core_definitions.specs.Phase.{CoreSettings, Phase, ArePlaces}
use Rattle.phase_state.specs.declared.kind.Kind.{Kind}
use Rattle.phase_state.specs.declared.kind.Kind.TheVariants.{Sketch, Totals}
use Rattle.phase_state.specs.declared.phase_plan.PlanSeen.{PlanSeen}
use Rattle.phase_state.specs.Sums.{IsPhasePlan, cut}

abbrev pub kind_of : Kind → phase.Kind
kind_of Sketch = phase.sketching
kind_of Totals = phase.totalling

-- a phase with the number of levels before it
pub record StageSeen : Type 0 where
  pub batch : List Report
  pub past : ℕ
  pub kind : phase.Kind
  pub live : List ℕ
  pub candidates : List (List Bool)
  -- the totals of each level before it
  pub recorded : List (List ℕ)

abbrev pub phase_at : StageSeen → Phase
phase_at s = record { batch = s.batch; level = suc s.past; kind = s.kind; live = s.live; candidates = s.candidates }

-- what holds of each phase of a walk
pub record IsStage (core : CoreSettings) (s : StageSeen) : Type 0 where
  pub levels : (side : Side) → All (λ share. length share.levels ≡ core.walk.bits) (map (λ r. held r side) s.batch)
  pub inside : suc s.past ≤ core.walk.bits
  pub bits : All (λ q. length q ≡ suc s.past) s.candidates
  pub places : ArePlaces (length s.batch) s.live
  pub few : length s.candidates < 2 ^ 20
  pub reports : length s.live < 2 ^ 31
  pub small : length s.live * length s.candidates < 2 ^ 31

-- a side's plan of a phase
pub record IsPlanOf (core : CoreSettings) (p : Phase) (side : Side) (plan : PlanSeen) : Type 0 where
  pub side_is : plan.side ≡ side
  pub kind_is : kind_of plan.kind ≡ p.kind
  pub level_is : plan.level ≡ p.level
  pub verify_is : plan.verify ≡ core.walk.verify
  pub shares_are : plan.shares ≡ map (λ r. held r side) p.batch
  pub named : map (λ s. s.id) plan.shares ≡ map (λ r. r.id) p.batch
  pub live_are : plan.live ≡ p.live
  pub candidates_are : plan.candidates ≡ p.candidates
  pub tiles_are : cut plan.tiles ≡ phase.plan_of core p
  pub fits : IsPhasePlan plan
