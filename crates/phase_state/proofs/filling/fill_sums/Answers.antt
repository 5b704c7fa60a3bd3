use Rattle.std.proofs.Common.{◌≡◌, ◌<◌, ◌∙◌, sym, ap, get_or, map, length, arith}
use Rattle.definitions.specs.Evaluation.{Share}
use Rattle.definitions.specs.Sketch.{partial_sums_from}
use Rattle.phase_state.specs.declared.phase_plan.PlanSeen.{PlanSeen}
use Rattle.phase_state.specs.Sums.{coins_of, nodes_of}
use Rattle.phase_state.proofs.Lists.{read_at}
use Rattle.phase_state.proofs.Steps.{share_step}
use Rattle.phase_state.proofs.filling.fill_sums.Goals as goal

pub loop-place-preserved : goal.loop-place-preserved
loop-place-preserved c =
    let i = c.loop-place.place-index in
    let live = c.args.live.now in
    let plan = c.args.plan.now in
    let share = c.index-plan-place.result in
    let below : i < length live = omega arith in
    let place = get_or live i 0 in
    let is : share ≡ get_or plan.shares place share = c.index-plan-place.is ∙ ap (λ (p : PlanSeen). get_or p.shares place share) c.plan.view_is in
    let qs = c.args.candidates.now in
    let made = λ (s : Share). partial_sums_from (coins_of plan.verify plan.level s) c.args.first (map (λ q. (nodes_of plan.side s q).d) qs) (map (λ q. (nodes_of plan.side s q).e) qs) in
    record {
      drawn = c.share_sums.ensures.room ∙ c.loop-place.invariant.drawn;
      room = c.push_reserved.ensures.capacity ∙ c.loop-place.invariant.room;
      made = share_step plan.shares live i place share below (read_at i live 0 below) (c.requires.places i 0 below) is
          made _ _ _ c.loop-place.invariant.made (c.share_sums.ensures.value ∙ ap made (sym c.index-plan-place.is)) c.push_reserved.ensures.items;
    }
