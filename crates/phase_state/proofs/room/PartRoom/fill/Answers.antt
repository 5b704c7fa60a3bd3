use Rattle.std.proofs.Common.{ap, sym, ◌∙◌}
use Rattle.phase_state.specs.declared.phase_plan.PlanSeen.{PlanSeen}
use Rattle.phase_state.proofs.Filled.{holds_sums, holds_totals, sums_filled, totals_filled}
use Rattle.phase_state.proofs.room.PartRoom.fill.Goals as goal

pub returns-in-Sketch-clause-part : goal.returns-in-Sketch-clause-part
returns-in-Sketch-clause-part c =
    let kind = sym (ap (λ (p : PlanSeen). p.kind) c.plan.view_is) ∙ c.in-Sketch.is in
    holds_sums c.args.plan.now c.args.tile _ kind
    (sums_filled c.args.plan.now c.args.tile c.tile-r0.result c.requires.plan c.tile-r0.ensures.exact c.tile-r0.ensures.part c.plan.inside.live.now c.plan.inside.candidates.now
    (ap (λ (p : PlanSeen). p.live) c.plan.view_is) (ap (λ (p : PlanSeen). p.candidates) c.plan.view_is) c.fill_sums.new.sums.items c.fill_sums.ensures.sums)

pub returns-in-Totals-clause-part : goal.returns-in-Totals-clause-part
returns-in-Totals-clause-part c =
    let kind = sym (ap (λ (p : PlanSeen). p.kind) c.plan.view_is) ∙ c.in-Totals.is in
    holds_totals c.args.plan.now c.args.tile _ kind
    (totals_filled c.args.plan.now c.args.tile c.tile-r0.result c.requires.plan c.tile-r0.ensures.exact c.tile-r0.ensures.part c.plan.inside.live.now c.plan.inside.candidates.now
    (ap (λ (p : PlanSeen). p.live) c.plan.view_is) (ap (λ (p : PlanSeen). p.candidates) c.plan.view_is) c.fill_totals.new.totals.items c.fill_totals.ensures.totals)
