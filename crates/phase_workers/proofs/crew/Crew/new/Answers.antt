use Rattle.std.proofs.Common.{rules, refl, ◌≡◌, ap, sym, ◌∙◌, subst}
use Rattle.tile_claims.specs.Drawers.{fresh_drawer}
use Rattle.tile_claims.specs.Plans.{Plan, tiles_of}
use Rattle.phase_state.specs.declared.phase_plan.PlanSeen.{PlanSeen}
use Rattle.phase_state.specs.Rooms.{HasRoom}
use Rattle.phase_workers.specs.Marked.{IsFreshDrawer}
use Rattle.phase_workers.proofs.Lists.{all_of_map}
use Rattle.phase_workers.proofs.Seats.{fresh_passes_are}
use Rattle.phase_workers.proofs.crew.Crew.new.Goals as goal

pub seat_all-requires-clause-drawers : goal.seat_all-requires-clause-drawers
seat_all-requires-clause-drawers c = rw c.in_ok-claims.ensures.drawers (all_of_map (IsFreshDrawer _) (fresh_drawer _) _ (λ k. (refl, refl, refl)))

pub seat_all-requires-clause-passes : goal.seat_all-requires-clause-passes
seat_all-requires-clause-passes c = rw c.in_ok-level.ensures.passes (fresh_passes_are _ _)

pub invariant_of-result : goal.invariant_of-result
invariant_of-result c =
    let level = c.in_ok-level.level in
    let room = c.in_ok-room.room in
    let same : c.plan.inside.tiles ≡ level.plan.tiles = ap (λ (p : PlanSeen). p.tiles) (c.plan.view_is ∙ sym c.in_ok-level.ensures.plan) in (
      c.in_ok-claims.ensures.tiles ∙ c.tiles.ensures.count ∙ ap tiles_of same,
      c.in_ok-claims.ensures.count,
      c.in_ok-level.ensures.count,
      search rules,
      search rules,
      c.in_ok-seats.ensures.seats,
      c.in_ok-seats.ensures.empty.0,
      c.in_ok-seats.ensures.empty.1,
      search rules,
      search rules,
      subst (λ (p : Plan). HasRoom p room.reports room.candidates) same c.in_ok-room.ensures,
      c.requires.cache.0 ∙ ap (λ (p : PlanSeen). p.side) (sym c.in_ok-level.ensures.plan),
      c.requires.cache.1 ∙ ap (λ (p : PlanSeen). p.shares) (sym c.in_ok-level.ensures.plan),
      c.in_ok-seats.ensures.cached,
      c.in_ok-seats.ensures.left,
      search rules,
    )
