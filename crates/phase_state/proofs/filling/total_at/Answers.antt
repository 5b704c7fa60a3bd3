use Rattle.std.proofs.Common.{◌≡◌, ◌<◌, ◌∙◌, sym, ap, get_or, length, arith}
use Rattle.definitions.specs.Evaluation.{Node, Share}
use Rattle.definitions.proofs.FieldLaws.{total_by-nil}
use Rattle.phase_state.specs.declared.phase_plan.PlanSeen.{PlanSeen}
use Rattle.phase_state.specs.Sums.{nodes_of}
use Rattle.phase_state.proofs.Lists.{read_at}
use Rattle.phase_state.proofs.Steps.{total_step}
use Rattle.phase_state.proofs.filling.total_at.Goals as goal

pub loop-place-init : goal.loop-place-init
loop-place-init c = c.zero-sum.ensures.value ∙ sym (total_by-nil (λ s. (nodes_of c.args.plan.now.side s c.args.prefix.now).d))

pub loop-place-preserved : goal.loop-place-preserved
loop-place-preserved c =
    let i = c.loop-place.place-index in
    let live = c.args.live.now in
    let plan = c.args.plan.now in
    let share = c.index-plan-place.result in
    let below : i < length live = omega arith in
    let place = get_or live i 0 in
    let q = c.args.prefix.now in
    let is : share ≡ get_or plan.shares place share = c.index-plan-place.is ∙ ap (λ (p : PlanSeen). get_or p.shares place share) c.plan.view_is in
    let value : c.add.inside.d ≡ (nodes_of plan.side share q).d =
    ap (λ (n : Node). n.d) (c.add.view_is ∙ c.eval_uncounted.ensures.value) ∙ ap (λ (s : Share). (nodes_of c.plan.inside.side s q).d) (sym c.index-plan-place.is) ∙ ap (λ (p : PlanSeen). (nodes_of p.side share q).d) c.plan.view_is in
    total_step plan.shares live i place share below (read_at i live 0 below) (c.requires.places i 0 below) is (λ s. (nodes_of plan.side s q).d)
    c.loop-place.sum c.add-sum.result c.add.inside.d c.loop-place.invariant value c.add-sum.ensures.value
