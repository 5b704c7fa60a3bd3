use Rattle.std.proofs.Common.{◌≡◌, ap, ◌∙◌, subst}
use Rattle.tile_claims.specs.Plans.{Plan}
use Rattle.phase_state.specs.declared.phase_plan.PlanSeen.{PlanSeen}
use Rattle.phase_state.specs.Rooms.{HasRoom}
use Rattle.crew_tests.proofs.tests.levels.post_twice.Goals as goal

pub post_all-one-requires-clause-room : goal.post_all-one-requires-clause-room
post_all-one-requires-clause-room g c =
    let level = c.in_ok-level.level in
    let room = c.in_ok-room.room in
    let same : c.behind-level.inside.tiles ≡ level.plan.tiles = ap (λ (p : PlanSeen). p.tiles) (c.behind-level.view_is ∙ c.plan.ensures.same) in
    subst (λ (p : Plan). HasRoom p room.reports room.candidates) same c.in_ok-room.ensures
