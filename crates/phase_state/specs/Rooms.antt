-- Rooms in which parts are made.
use Rattle.std.specs.Prelude.{◌≡◌, ℕ, ◌+◌, ◌<◌, ◌≤◌, List}
use Rattle.definitions.specs.Sketch.{Sums}
use Rattle.tile_claims.specs.Plans.{Plan, tile_of, tiles_of}
use Rattle.phase_state.specs.declared.kind.Kind.{Kind}
use Rattle.phase_state.specs.declared.kind.Kind.TheVariants.{Sketch, Totals}
use Rattle.phase_state.specs.declared.part.Part.{Part}
use Rattle.phase_state.specs.declared.part.Part.TheVariants.{Sketch as OfSketch, Totals as OfTotals}
use Rattle.phase_state.specs.declared.phase_plan.PlanSeen.{PlanSeen}
use Rattle.phase_state.specs.Sums.{part_sums, part_totals}

-- for how many reports and candidates of a tile there is room, and what was made last
pub record RoomSeen : Type 0 where
  pub reports : ℕ
  pub candidates : ℕ
  pub sums : List Sums
  pub totals : List ℕ

-- there is room for each tile of the plan
abbrev pub HasRoom : Plan → ℕ → ℕ → Type 0
HasRoom plan reports candidates = (k : ℕ) → k < tiles_of plan
    → ((tile_of plan k).r1 ≤ (tile_of plan k).r0 + reports) × ((tile_of plan k).c1 ≤ (tile_of plan k).c0 + candidates)

-- what tile k adds was made last
pub record Holds (plan : PlanSeen) (k : ℕ) (room : RoomSeen) : Type 0 where
  pub sums : plan.kind ≡ Sketch → room.sums ≡ part_sums plan k
  pub totals : plan.kind ≡ Totals → room.totals ≡ part_totals plan k

-- the part shows the sums, or the totals, of the room
abbrev pub Shows : Kind → RoomSeen → Part → Type 0
Shows kind room (OfSketch sums) = (kind ≡ Sketch) × (sums.now ≡ room.sums)
Shows kind room (OfTotals totals) = (kind ≡ Totals) × (totals.now ≡ room.totals)
