use Rattle.std.proofs.Common.{◌≤◌, ◌∙◌, ap, subst, map, length, arith}
use Rattle.std.specs.Prelude.{slice_range, List, Bool}
use Rattle.std.proofs.lemmas.List.{take_all}
use Rattle.definitions.specs.Evaluation.{Share}
use Rattle.definitions.specs.Sketch.{partial_sums_from}
use Rattle.tile_claims.specs.Plans.{tile_of, IsPartOf}
use Rattle.phase_state.specs.declared.phase_plan.PlanSeen.{PlanSeen}
use Rattle.phase_state.specs.Sums.{coins_of, nodes_of, share_at}
use Rattle.phase_state.proofs.Filled.{sums_filled}
use Rattle.half_events.proofs.parts.sketch_part.Goals as goal

pub returns : goal.returns
returns c =
    let plan = c.args.plan.now in
    let t = c.tile-r0.result in
    let live = slice_range c.plan.inside.live.now t.r0 t.r1 in
    let qs = slice_range c.plan.inside.candidates.now t.c0 t.c1 in
    let most : length live ≤ c.loop-report.report-index = omega arith in
    let made = λ (s : Share). partial_sums_from (coins_of plan.verify plan.level s) t.c0 (map (λ (q : List Bool). (nodes_of plan.side s q).d) qs) (map (λ (q : List Bool). (nodes_of plan.side s q).e) qs) in
    record {
      part = sums_filled plan c.args.tile t c.requires.plan
          (c.tile-r0.ensures.exact ∙ ap (λ (p : PlanSeen). tile_of p.tiles c.args.tile) c.plan.view_is)
          (subst (λ (p : PlanSeen). IsPartOf p.tiles.reports p.tiles.candidates t) c.plan.view_is c.tile-r0.ensures.part)
          c.plan.inside.live.now c.plan.inside.candidates.now
          (ap (λ (p : PlanSeen). p.live) c.plan.view_is) (ap (λ (p : PlanSeen). p.candidates) c.plan.view_is) c.loop-report.sums.items
          (c.loop-report.invariant ∙ ap (λ l. map made (map (share_at plan.shares) l)) (take_all c.loop-report.report-index live most));
    }
