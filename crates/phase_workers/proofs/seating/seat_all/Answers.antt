use Rattle.std.proofs.Common.{rules, subst}
use Rattle.std.specs.List.{AllByRecursion}
use Rattle.tile_claims.specs.Plans.{Plan}
use Rattle.phase_state.specs.Rooms.{HasRoom}
use Rattle.phase_workers.specs.Marked.{IsFreshDrawer, IsFreshPass}
use Rattle.phase_workers.specs.Seen.{ArePasses}
use Rattle.phase_workers.proofs.Lists.{push_of, front_of, last_of}
use Rattle.phase_workers.proofs.Seats.{waiting_of}
use Rattle.phase_workers.proofs.seating.seat_all.Goals as goal

pub loop-drawer-preserved : goal.loop-drawer-preserved
loop-drawer-preserved c =
    let inv = c.loop-drawer.invariant in
    let drawers = subst (AllByRecursion (IsFreshDrawer _)) c.in-Some.ensures.items inv.0 in
    let passes = subst (AllByRecursion (IsFreshPass _)) c.in-Some-pop.ensures.items inv.1 in
    let cached = subst (ArePasses c.args.cache.now.locks) c.in-Some-pop-2.ensures.items inv.8 in
    let room = subst (λ (p : Plan). HasRoom p c.in_ok-room.room.reports c.in_ok-room.room.candidates) c.requires.tiles c.in_ok-room.ensures in (
      front_of _ _ _ drawers,
      front_of _ _ _ passes,
      rw c.push_reserved.ensures.items (push_of _ _ _ inv.2 (waiting_of _ _ _ _ _ _ _ (last_of _ _ _ drawers) (last_of _ _ _ passes) (last_of _ _ _ cached) room)),
      search rules,
      search rules,
      search rules,
      search rules,
      search rules,
      front_of _ _ _ cached,
      search rules,
      search rules,
    )
