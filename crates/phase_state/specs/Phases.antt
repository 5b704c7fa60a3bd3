-- What contracts see of a phase's state, and what it keeps.
use Rattle.std.specs.Prelude.{◌≡◌, ℕ, ◌≤◌, Bool, false, cond, List, length, count_by, slice_index_or}
use Rattle.definitions.specs.Sketch.{Sums}
use Rattle.tile_claims.specs.Plans.{tiles_of}
use Rattle.core_definitions.specs.Phase.{Posting}
use Rattle.phase_state.specs.declared.kind.Kind.TheVariants.{Sketch, Totals}
use Rattle.phase_state.specs.declared.part.Part.{Part}
use Rattle.phase_state.specs.declared.part.Part.TheVariants.{Sketch as OfSketch, Totals as OfTotals}
use Rattle.phase_state.specs.declared.phase_plan.PlanSeen.{PlanSeen}
use Rattle.phase_state.specs.Sums.{IsPhasePlan, sums_of, totals_of, part_sums, part_totals}
use Rattle.phase_state.specs.Logs.{tiles_in, posts}

-- the plan, and the tiles posted, the oldest first
pub record StateSeen : Type 0 where
  pub plan : PlanSeen
  pub log : List Posting

-- the part is what tile k adds
abbrev pub IsPart : PlanSeen → ℕ → Part → Type 0
IsPart plan k (OfSketch sums) = (plan.kind ≡ Sketch) × (sums.now ≡ part_sums plan k)
IsPart plan k (OfTotals totals) = (plan.kind ≡ Totals) × (totals.now ≡ part_totals plan k)

-- the sums and the totals are those of the tiles in the log, each once, and the marks tell which these are;
-- there is room for a log of every tile
pub record IsPhase (plan : PlanSeen) (log : List Posting) (room : ℕ) (marks : List Bool) (sums : List Sums) (totals : List ℕ) : Type 0 where
  pub fits : IsPhasePlan plan
  pub sums_are : sums ≡ sums_of plan (tiles_in log)
  pub totals_are : totals ≡ totals_of plan (tiles_in log)
  pub once : (k : ℕ) → posts k log ≡ cond (slice_index_or marks k false) 1 0
  pub long : length marks ≡ tiles_of plan.tiles
  pub count : length log ≡ count_by (λ b. b) marks
  pub has_room : tiles_of plan.tiles ≤ room
