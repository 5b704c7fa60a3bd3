use Rattle.std.proofs.Common.{◌≡◌, ◌<◌, ◌∙◌, ap, sym, length, get_or, arith}
use Rattle.definitions.specs.Sketch.{correlation, masked}
use Rattle.phase_state.specs.declared.phase_plan.PlanSeen.{PlanSeen}
use Rattle.phase_state.proofs.Lists.{read_at}
use Rattle.phase_state.proofs.Steps.{share_step}
use Rattle.phase_sums.specs.SideSums.{hidden_sum}
use Rattle.phase_sums.proofs.Sides.{hidden_at}
use Rattle.phase_sums.proofs.hiding.hidden.Goals as goal

pub loop-k-preserved : goal.loop-k-preserved
loop-k-preserved c =
    let i = c.loop-k.k in
    let plan = c.args.plan.now in
    let below : i < length plan.live = omega (arith, ap (λ (p : PlanSeen). length p.live) c.plan.view_is) in
    let place = get_or plan.live i 0 in
    let at = read_at i plan.live 0 below in
    let share = c.index-plan-place.result in
    let is : share ≡ get_or plan.shares place share = c.index-plan-place.is ∙ ap (λ (p : PlanSeen). get_or p.shares (get_or p.live i 0) share) c.plan.view_is in
    let within = c.requires.places i 0 below in
    let sum = c.index-sums-k.result in
    let triple =
    c.correlation.ensures.value ∙ ap (λ s. correlation s.corr c.plan.inside.level) (c.share.view_is ∙ sym c.index-plan-place.is)
    ∙ ap (λ (p : PlanSeen). correlation share.corr p.level) c.plan.view_is in
    let value = c.masked.ensures.value ∙ ap (masked sum) triple in
    share_step plan.shares plan.live i place share below at within is (hidden_sum plan) c.loop-k.hidden.items c.push.new.self.items c.masked.result c.loop-k.invariant
    (value ∙ hidden_at plan c.args.sums.now i place share sum c.requires.plain below at within is c.index-sums-k.is) c.in_ok-push.ensures.items
