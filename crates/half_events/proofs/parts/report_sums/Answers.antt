use Rattle.std.proofs.Common.{◌≡◌, ◌<◌, ◌≤◌, ◌+◌, ◌∙◌, ap, sym, get_or, length, arith}
use Rattle.std.specs.Prelude.{List, Bool}
use Rattle.std.proofs.lemmas.List.{get_or_read}
use Rattle.definitions.specs.Field.{mul}
use Rattle.definitions.specs.Evaluation.{Node, Share}
use Rattle.definitions.specs.Sketch.{coin_key, coin_at, squared}
use Rattle.core_definitions.specs.Phase.{no_share}
use Rattle.phase_state.specs.declared.phase_plan.PlanSeen.{PlanSeen}
use Rattle.phase_state.specs.Sums.{coins_of, nodes_of, share_at}
use Rattle.phase_state.proofs.Steps.{weighted-step}
use Rattle.half_events.proofs.Tiling.{sums-whole}
use Rattle.half_events.proofs.parts.report_sums.Goals as goal

pub loop-place-preserved : goal.loop-place-preserved
loop-place-preserved c =
    let plan = c.args.plan.now in
    let share = share_at plan.shares c.args.report in
    let r = coins_of plan.verify plan.level share in
    let d = λ (q : List Bool). (nodes_of plan.side share q).d in
    let e = λ (q : List Bool). (nodes_of plan.side share q).e in
    let i = c.loop-place.place in
    let first = c.args.first in
    let qs = c.args.candidates.now in
    let q = c.index-candidates-place.result in
    let is = c.index-candidates-place.is in
    let below : i < length qs = omega arith in
    let node_is = c.node.view_is ∙ c.node_of-node.ensures in
    let d_is : c.node.inside.d ≡ d q = ap (λ (n : Node). n.d) node_is in
    let e_is : c.node.inside.e ≡ e q = ap (λ (n : Node). n.e) node_is in
    let read = c.index-plan-report.is ∙ ap (λ (p : PlanSeen). get_or p.shares c.args.report c.index-plan-report.result) c.plan.view_is in
    let share_is : c.index-plan-report.result ≡ share = get_or_read plan.shares c.args.report c.index-plan-report.result c.requires.report read no_share in
    let key = c.of-key.ensures.value ∙ ap (λ (s : Share). coin_key c.plan.inside.verify s.id) (c.share.view_is ∙ sym c.index-plan-report.is ∙ share_is) in
    let r_is : c.coin.result ≡ r (first + i) =
    c.coin.ensures.value ∙ ap (λ k. coin_at k c.plan.inside.level (first + i)) key
    ∙ ap (λ (p : PlanSeen). coin_at (coin_key p.verify share.id) p.level (first + i)) c.plan.view_is in
    let square : mul c.coin.result c.coin.result ≡ squared r (first + i) = ap (λ n. mul n n) r_is in
    record {
      x = weighted-step r first d i qs q c.loop-place.sums.x c.with-sums.result.x c.coin.result c.node.inside.d below is c.loop-place.invariant.x r_is d_is c.with-sums.ensures.x;
      y = weighted-step (squared r) first d i qs q c.loop-place.sums.y c.with-sums.result.y (mul c.coin.result c.coin.result) c.node.inside.d below is
          c.loop-place.invariant.y square d_is c.with-sums.ensures.y;
      z = weighted-step r first e i qs q c.loop-place.sums.z c.with-sums.result.z c.coin.result c.node.inside.e below is c.loop-place.invariant.z r_is e_is c.with-sums.ensures.z;
    }

pub returns : goal.returns
returns c =
    let plan = c.args.plan.now in
    let share = share_at plan.shares c.args.report in
    let most : length c.args.candidates.now ≤ c.loop-place.place = omega arith in
    record {
      value = sums-whole (coins_of plan.verify plan.level share) c.args.first (λ (q : List Bool). (nodes_of plan.side share q).d) (λ (q : List Bool). (nodes_of plan.side share q).e)
          c.loop-place.place c.args.candidates.now c.loop-place.sums most c.loop-place.invariant.x c.loop-place.invariant.y c.loop-place.invariant.z;
    }
