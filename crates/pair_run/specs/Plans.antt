-- The plan of a side's phase of a level.
use Rattle.std.specs.Prelude.{ℕ, ◌<◌, ◌^◌, Bool, List, length, map}
use Rattle.definitions.specs.declared.Side.{Side}
use Rattle.walk_definitions.specs.Reports.{Report, held}
use Rattle.tile_claims.specs.Plans.{plan_of, tiles_of}
use Rattle.phase_state.specs.declared.kind.Kind.{Kind}
use Rattle.phase_state.specs.declared.phase_plan.PlanSeen.{PlanSeen}
use Rattle.pair_run.specs.declared.settings.WalkSettings.{WalkSettings}

-- so many reports by as many candidates as the cap lets pass are cut into fewer than 2 ^ 31 tiles
abbrev pub HasFewTiles : WalkSettings → ℕ → Type 0
HasFewTiles settings reports = tiles_of (plan_of reports settings.cap settings.by_reports settings.by_candidates) < 2 ^ 31

-- a side's shares in a batch, the live reports, and the candidates, cut into the tiles of the settings
abbrev pub side_plan : WalkSettings → Kind → ℕ → List (List Bool) → Side → List Report → List ℕ → PlanSeen
side_plan settings kind level candidates side batch live = record {
  side = side;
  kind = kind;
  level = level;
  verify = settings.verify;
  shares = map (λ r. held r side) batch;
  live = live;
  candidates = candidates;
  tiles = plan_of (length live) (length candidates) settings.by_reports settings.by_candidates;
}
