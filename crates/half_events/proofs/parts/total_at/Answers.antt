use Rattle.std.proofs.Common.{◌≡◌, ◌<◌, ◌∙◌, sym, ap, get_or, length, arith}
use Rattle.definitions.specs.Evaluation.{Node}
use Rattle.definitions.proofs.FieldLaws.{total_by-nil}
use Rattle.core_definitions.specs.Phase.{no_share}
use Rattle.phase_state.specs.Sums.{nodes_of, share_at}
use Rattle.phase_state.proofs.Lists.{read_at}
use Rattle.phase_state.proofs.Steps.{total_step}
use Rattle.half_events.proofs.parts.total_at.Goals as goal

pub loop-report-init : goal.loop-report-init
loop-report-init c = c.zero-sum.ensures.value ∙ sym (total_by-nil (λ s. (nodes_of c.args.plan.now.side s c.args.prefix.now).d))

pub loop-report-preserved : goal.loop-report-preserved
loop-report-preserved c =
    let i = c.loop-report.report-index in
    let live = c.args.live.now in
    let plan = c.args.plan.now in
    let below : i < length live = omega arith in
    let place = get_or live i 0 in
    let q = c.args.prefix.now in
    let share = share_at plan.shares place in
    let inside = c.requires.places i 0 below in
    let value : c.add.inside.d ≡ (nodes_of plan.side share q).d = ap (λ (n : Node). n.d) (c.add.view_is ∙ c.node_of.ensures) in
    total_step plan.shares live i place share below (read_at i live 0 below) inside (read_at place plan.shares no_share inside) (λ s. (nodes_of plan.side s q).d)
    c.loop-report.sum c.add-sum.result c.add.inside.d c.loop-report.invariant value c.add-sum.ensures.value
