use Rattle.std.proofs.Common.{ap}
use Rattle.phase_state.specs.declared.phase_plan.PlanSeen.{PlanSeen}
use Rattle.phase_state.proofs.Filled.{sums_filled, totals_filled}
use Rattle.tile_filling.proofs.tile_room.TileRoom.fill.Goals as goal

pub returns-clause-part : goal.returns-clause-part
returns-clause-part g c =
    let plan = c.args.plan.now in
    let live = ap (λ (p : PlanSeen). p.live) c.plan.view_is in
    let candidates = ap (λ (p : PlanSeen). p.candidates) c.plan.view_is in
    record {
      sums = λ kind. sums_filled plan c.args.tile c.tile-r0.result c.requires.plan c.tile-r0.ensures.exact c.tile-r0.ensures.part
          c.plan.inside.live.now c.plan.inside.candidates.now live candidates _ (c.fill_over.ensures.sums kind);
      totals = λ kind. totals_filled plan c.args.tile c.tile-r0.result c.requires.plan c.tile-r0.ensures.exact c.tile-r0.ensures.part
          c.plan.inside.live.now c.plan.inside.candidates.now live candidates _ (c.fill_over.ensures.totals kind);
    }
