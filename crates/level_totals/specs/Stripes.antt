-- The stripes of a level: which tiles are posted behind which lock.
use Rattle.std.specs.Prelude.{◌≡◌, ℕ, ◌%◌, min, max, List, map}
use Rattle.std.specs.List.{AllByRecursion, range_with_len}
use Rattle.tile_claims.specs.Plans.{Plan, blocks_of, block_of}
use Rattle.core_definitions.specs.Phase.{Posting}
use Rattle.phase_state.specs.declared.phase_plan.PlanSeen.{PlanSeen}
use Rattle.phase_state.specs.Phases.{StateSeen}
use Rattle.level_totals.specs.declared.held_phase.StripePlan.{StripePlan}

-- as many stripes as there are candidate blocks, but at least 1 and at most 4
abbrev pub stripes_of : Plan → ℕ
stripes_of plan = max 1 (min 4 (blocks_of plan))

-- the stripe of a tile, counted from 0: the number of its candidate block, modulo the number of stripes
abbrev pub stripe_of : Plan → ℕ → ℕ
stripe_of plan tile = block_of plan tile % stripes_of plan

-- each posting is of a tile of that stripe
abbrev pub AreOfStripe : Plan → ℕ → List Posting → Type 0
AreOfStripe plan stripe log = AllByRecursion (λ e. stripe_of plan e.tile ≡ stripe) log

-- what a lock holds: the state of the whole plan, and the number of the stripe whose tiles are posted there
pub record HeldSeen : Type 0 where
  pub state : StateSeen
  pub stripe : ℕ

abbrev pub stripe_plan : PlanSeen → ℕ → StripePlan
stripe_plan plan stripe = record { plan = plan; stripe = stripe }

-- what stays of it
abbrev pub plan_of : HeldSeen → StripePlan
plan_of held = stripe_plan held.state.plan held.stripe

-- the plans of the locks of a level, one for each stripe, in order
abbrev pub stripe_plans : PlanSeen → List StripePlan
stripe_plans plan = map (stripe_plan plan) (range_with_len 0 (stripes_of plan.tiles))
