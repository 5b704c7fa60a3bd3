use Rattle.std.proofs.Common.{◌≤◌, ◌∙◌, ap, subst, map, length, arith}
use Rattle.std.specs.Prelude.{slice_range, List, Bool}
use Rattle.std.proofs.lemmas.List.{take_all}
use Rattle.definitions.specs.Field.{total_by}
use Rattle.tile_claims.specs.Plans.{tile_of, IsPartOf}
use Rattle.phase_state.specs.declared.phase_plan.PlanSeen.{PlanSeen}
use Rattle.phase_state.specs.Sums.{nodes_of, share_at}
use Rattle.phase_state.proofs.Filled.{totals_filled}
use Rattle.half_events.proofs.parts.totals_part.Goals as goal

pub returns : goal.returns
returns c =
    let plan = c.args.plan.now in
    let t = c.tile-r0.result in
    let live = slice_range c.plan.inside.live.now t.r0 t.r1 in
    let qs = slice_range c.plan.inside.candidates.now t.c0 t.c1 in
    let most : length qs ≤ c.loop-prefix.prefix-index = omega arith in
    let made = λ (q : List Bool). total_by (λ s. (nodes_of plan.side s q).d) (map (share_at plan.shares) live) in
    record {
      part = totals_filled plan c.args.tile t c.requires.plan
          (c.tile-r0.ensures.exact ∙ ap (λ (p : PlanSeen). tile_of p.tiles c.args.tile) c.plan.view_is)
          (subst (λ (p : PlanSeen). IsPartOf p.tiles.reports p.tiles.candidates t) c.plan.view_is c.tile-r0.ensures.part)
          c.plan.inside.live.now c.plan.inside.candidates.now
          (ap (λ (p : PlanSeen). p.live) c.plan.view_is) (ap (λ (p : PlanSeen). p.candidates) c.plan.view_is) c.loop-prefix.totals.items
          (c.loop-prefix.invariant ∙ ap (map made) (take_all c.loop-prefix.prefix-index qs most));
    }
