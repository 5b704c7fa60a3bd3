-- What a side sends of a phase, by the definitions of the check and of the walk.
use Rattle.std.specs.Prelude.{◌≡◌, ℕ, Bool, List, map}
use Rattle.definitions.specs.Field.{total_by}
use Rattle.definitions.specs.Evaluation.{Share, node}
use Rattle.definitions.specs.Sketch.{Sums, coin}
use Rattle.definitions.specs.Check.{masked_sums}
use Rattle.tile_claims.specs.Plans.{tiles_of}
use Rattle.phase_state.specs.declared.phase_plan.PlanSeen.{PlanSeen}
use Rattle.phase_state.specs.Sums.{live_shares}
use Rattle.phase_state.specs.Logs.{EachOnce}
use Rattle.phase_state.specs.Phases.{StateSeen}

-- a share's sums over the candidates with its coins, hidden by its part of the correlation
abbrev pub hidden_sum : PlanSeen → Share → Sums
hidden_sum plan share = masked_sums (coin plan.verify share.id plan.level) share plan.side plan.level plan.candidates

-- those of the live reports, in order
abbrev pub hidden_sums : PlanSeen → List Sums
hidden_sums plan = map (hidden_sum plan) (live_shares plan)

-- the total at a prefix over the live reports
abbrev pub live_total : PlanSeen → List Bool → ℕ
live_total plan prefix = total_by (λ share. (node share plan.side prefix).d) (live_shares plan)

-- those of the candidates, in order
abbrev pub live_totals : PlanSeen → List ℕ
live_totals plan = map (live_total plan) plan.candidates

-- the phase is of the plan, and each of its tiles is posted once
pub record IsWhole (plan : PlanSeen) (finished : StateSeen) : Type 0 where
  pub plan_is : finished.plan ≡ plan
  pub each : EachOnce (tiles_of plan.tiles) finished.log
