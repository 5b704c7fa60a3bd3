-- A worker before and after its work.
use Rattle.std.specs.Prelude.{ℕ, ◌≡◌, Bool, false, List, [], Option, Some}
use Rattle.atomic_table.specs.Seated.{TableId}
use Rattle.tile_claims.specs.Drawers.{DrawerSeen}
use Rattle.turn_lock.specs.Seen.{LockId}
use Rattle.lock_row.specs.Rows.{locks_of}
use Rattle.eval_cache.specs.declared.shard.ShardPlan.{ShardPlan}
use Rattle.phase_state.specs.Rooms.{HasRoom}
use Rattle.level_totals.specs.declared.held_phase.StripePlan.{StripePlan}
use Rattle.level_totals.specs.Levels.{LevelSeen, LevelPassSeen, seen_of, own_of}
use Rattle.phase_workers.specs.Crews.{Did, IsLast}
use Rattle.phase_workers.specs.declared.worker.Worker.{Worker}

-- it has drawn and posted nothing, and has room for each tile
abbrev pub Ready : LevelSeen → TableId → List (LockId ShardPlan) → Worker → Type 0
Ready level table cache w =
    (w.cached ≡ cache) × (locks_of w.pass ≡ level.locks) × (w.drawer.claims ≡ table) × (w.drawer.had_none ≡ false) × (w.drawer.drawn ≡ []) × (own_of w.pass ≡ [])
    × HasRoom level.plan.tiles w.room.reports w.room.candidates

-- it drew until there was no tile left, and did its tiles
abbrev pub IsDone : List (LockId StripePlan) → TableId → List (LockId ShardPlan) → Bool → (ℕ → Bool) → ℕ → Worker → Type 0
IsDone locks table cache tells rule tiles w =
    (w.cached ≡ cache) × (locks_of w.pass ≡ locks) × (w.drawer.claims ≡ table)
    × IsLast tiles w.drawer.drawn
    × Did tells rule tiles w.drawer.drawn (seen_of w.pass) (own_of w.pass)

-- one who is ready sits there
pub record Waiting (level : LevelSeen) (table : TableId) (cache : List (LockId ShardPlan)) (seat : Option Worker) : Type 0 where
  pub worker : Worker
  pub here : seat ≡ Some worker
  pub ready : Ready level table cache worker

-- one whose work is done sits there
pub record Home (locks : List (LockId StripePlan)) (table : TableId) (cache : List (LockId ShardPlan)) (tells : Bool) (rule : ℕ → Bool) (tiles : ℕ) (seat : Option Worker) : Type 0 where
  pub worker : Worker
  pub here : seat ≡ Some worker
  pub done : IsDone locks table cache tells rule tiles worker

-- the drawer and the pass of one worker that is done
pub record IsPaired (locks : List (LockId StripePlan)) (table : TableId) (tells : Bool) (rule : ℕ → Bool) (tiles : ℕ) (d : DrawerSeen) (p : LevelPassSeen) : Type 0 where
  pub mine : d.claims ≡ table
  pub same : locks_of p ≡ locks
  pub last : IsLast tiles d.drawn
  pub did : Did tells rule tiles d.drawn (seen_of p) (own_of p)

abbrev pub IsFreshDrawer : TableId → DrawerSeen → Type 0
IsFreshDrawer table d = (d.claims ≡ table) × (d.had_none ≡ false) × (d.drawn ≡ [])

abbrev pub IsFreshPass : List (LockId StripePlan) → LevelPassSeen → Type 0
IsFreshPass locks p = (locks_of p ≡ locks) × (own_of p ≡ [])
