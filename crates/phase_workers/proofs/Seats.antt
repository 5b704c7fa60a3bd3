-- A worker who sits down, and one who gets up.
use Rattle.std.proofs.Common.{◌≡◌, ℕ, Bool, List, [], ◌∷◌, map, refl, ap, sym, ◌∙◌, subst}
use Rattle.std.specs.Prelude.{Option, Some, None}
use Rattle.std.specs.List.{AllByRecursion, range_with_len}
use Rattle.atomic_table.specs.Seated.{TableId}
use Rattle.tile_claims.specs.Drawers.{DrawerSeen}
use Rattle.turn_lock.specs.Seen.{LockId}
use Rattle.lock_row.specs.Rows.{locks_of, fresh_row, fresh_rows}
use Rattle.eval_cache.specs.declared.shard.ShardPlan.{ShardPlan}
use Rattle.core_definitions.specs.Phase.{Posting}
use Rattle.phase_state.specs.Rooms.{RoomSeen, HasRoom}
use Rattle.level_totals.specs.declared.held_phase.StripePlan.{StripePlan}
use Rattle.level_totals.specs.Levels.{LevelSeen, LevelPassSeen, own_of}
use Rattle.phase_workers.specs.declared.worker.Worker.{Worker}
use Rattle.phase_workers.specs.Marked.{Waiting, Home, IsPaired, IsFreshDrawer, IsFreshPass}

abbrev seated : DrawerSeen → LevelPassSeen → List (LockId ShardPlan) → RoomSeen → Worker
seated d p cached room = record { drawer = d; pass = p; cached = cached; room = room }

pub waiting_of : (level : LevelSeen) (table : TableId) (cache : List (LockId ShardPlan)) (d : DrawerSeen) (p : LevelPassSeen) (cached : List (LockId ShardPlan)) (room : RoomSeen)
    → IsFreshDrawer table d → IsFreshPass level.locks p → cached ≡ cache
    → HasRoom level.plan.tiles room.reports room.candidates → Waiting level table cache (Some (seated d p cached room))
waiting_of level table cache d p cached room fd fp mine has = record { worker = seated d p cached room; here = refl; ready = (mine, fp.0, fd.0, fd.1, fd.2, fp.1, has) }

or_else : Worker → Option Worker → Worker
or_else w None = w
or_else w (Some v) = v

pub paired_of : (locks : List (LockId StripePlan)) (table : TableId) (cache : List (LockId ShardPlan)) (tells : Bool) (rule : ℕ → Bool) (tiles : ℕ) (seat : Option Worker) (w : Worker)
    → Home locks table cache tells rule tiles seat → seat ≡ Some w
    → IsPaired locks table tells rule tiles w.drawer w.pass × (w.cached ≡ cache)
unfolding or_else
paired_of locks table cache tells rule tiles seat w h is =
    let same : h.worker ≡ w = ap (or_else w) (sym h.here ∙ is) in
    subst (λ (v : Worker). IsPaired locks table tells rule tiles v.drawer v.pass × (v.cached ≡ cache)) same
    (record { mine = h.done.2; same = h.done.1; last = h.done.3; did = h.done.4 }, h.done.0)

-- the passes of a new level were never used
fresh_locks : (number : ℕ) (locks : List (LockId StripePlan)) → locks_of (fresh_row {E = Posting} locks number) ≡ locks
fresh_locks number [] = refl
fresh_locks number (l ∷ ls) = ap (λ xs. l ∷ xs) (fresh_locks number ls)

fresh_own : (number : ℕ) (locks : List (LockId StripePlan)) → own_of (fresh_row {E = Posting} locks number) ≡ []
fresh_own number [] = refl
fresh_own number (l ∷ ls) = fresh_own number ls

pub fresh_passes_are : (locks : List (LockId StripePlan)) (count : ℕ) → AllByRecursion (IsFreshPass locks) (fresh_rows locks count)
fresh_passes_are locks count = go (range_with_len 0 count)
  where
    go : (ns : List ℕ) → AllByRecursion (IsFreshPass locks) (map (fresh_row {E = Posting} locks) ns)
    go [] = tt
    go (n ∷ ns) = ((fresh_locks n locks, fresh_own n locks), go ns)
