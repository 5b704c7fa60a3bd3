use Rattle.std.proofs.Common.{◌≡◌, ap, sym, ◌∙◌, subst}
use Rattle.tile_claims.specs.Plans.{tiles_of}
use Rattle.phase_state.specs.declared.phase_plan.PlanSeen.{PlanSeen}
use Rattle.phase_state.specs.Rooms.{HasRoom}
use Rattle.phase_workers.specs.Seen.{ArePasses}
use Rattle.phase_workers.proofs.Lists.{push_of, front_of}
use Rattle.phase_workers.proofs.Whole.{run_is}
use Rattle.phase_workers.proofs.running.run_phase.Goals as goal

pub sweep-finished-requires-clause-room : goal.sweep-finished-requires-clause-room
sweep-finished-requires-clause-room g c κs within =
    subst (λ (p : PlanSeen). HasRoom p.tiles c.crew.inside.room.reports c.crew.inside.room.candidates) (sym (c.copy-plan.ensures ∙ c.plan.ensures.same)) c.crew.invariant.10

pub returns-clause-run : goal.returns-clause-run
returns-clause-run g c =
    let inv = c.crew.invariant in
    let plan = c.crew.inside.level.plan in
    let same : c.copy-plan.result ≡ plan = c.copy-plan.ensures ∙ c.plan.ensures.same in
    let count : c.count-tiles.result ≡ tiles_of plan.tiles = c.count-tiles.ensures ∙ ap (λ (p : PlanSeen). tiles_of p.tiles) same in
    let side : c.plan-2.inside.side ≡ plan.side = ap (λ (p : PlanSeen). p.side) (c.plan-2.view_is ∙ same) in
    rw (← c.crew.view_is)
    (run_is plan c.crew.inside.workers c.crew.inside.cache.now.locks (g.G.Gate.rule c.args.gate.now) c.plan-2.inside.side c.count-tiles.result c.crew.inside.claims.tiles c.crew.inside.level.passes c.sweep-finished.result.1
    c.close_all-finished.result.log c.sweep-finished.result.0 side count inv.0 inv.2 (c.sweep-finished.ensures.plan ∙ c.close_all-finished.ensures.plan)
    c.close_all-finished.ensures.worked c.sweep-finished.ensures.swept c.all_posted.ensures.once)

pub returns-clause-passes : goal.returns-clause-passes
returns-clause-passes g c =
    rw (← c.crew.view_is, c.push_reserved.ensures.items)
    (push_of _ _ _ (front_of _ _ _ (subst (ArePasses c.crew.inside.cache.now.locks) c.in-Some.ensures.items c.take_apart-drawers.ensures.cached)) c.sweep-finished.ensures.this_cache)
