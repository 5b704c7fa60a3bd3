use Rattle.std.proofs.Common.{rules, ◌≡◌, ◌<◌, ◌+◌, ◌∙◌, ap, length, arith}
use Rattle.std.specs.Prelude.{List, Bool}
use Rattle.std.proofs.lemmas.List.{get_or_read}
use Rattle.definitions.specs.Field.{mul}
use Rattle.definitions.specs.Evaluation.{Node, Share}
use Rattle.definitions.specs.Sketch.{coin_key, coin_at, squared}
use Rattle.phase_state.specs.declared.phase_plan.PlanSeen.{PlanSeen}
use Rattle.phase_state.specs.Sums.{coins_of, nodes_of}
use Rattle.phase_state.proofs.Steps.{weighted-step}
use Rattle.phase_state.proofs.filling.share_sums.Goals as goal

pub loop-place-preserved : goal.loop-place-preserved
loop-place-preserved c =
    let plan = c.args.plan.now in
    let share = c.args.share.now in
    let r = coins_of plan.verify plan.level share in
    let d = λ (q : List Bool). (nodes_of plan.side share q).d in
    let e = λ (q : List Bool). (nodes_of plan.side share q).e in
    let i = c.loop-place.place in
    let first = c.args.first in
    let qs = c.args.candidates.now in
    let q = c.index-candidates-place.result in
    let is = c.index-candidates-place.is in
    let below : i < length qs = omega arith in
    let node_is = c.node.view_is ∙ c.eval_uncounted-node.ensures.value ∙ ap (λ (p : PlanSeen). nodes_of p.side share q) c.plan.view_is in
    let d_is : c.node.inside.d ≡ d q = ap (λ (n : Node). n.d) node_is in
    let e_is : c.node.inside.e ≡ e q = ap (λ (n : Node). n.e) node_is in
    let count : length c.coins.new.into ≡ length qs = search rules in
    let room : i < length c.coins.new.into = omega (arith, count) in
    let key = c.of.ensures.value ∙ ap (λ (s : Share). coin_key c.plan.inside.verify s.id) c.share.view_is in
    let r_is : c.index-drawn-place.result ≡ r (first + i) =
    get_or_read c.coins.new.into i c.index-drawn-place.result room c.index-drawn-place.is 0
    ∙ c.coins.ensures.value i room
    ∙ ap (λ k. coin_at k c.plan.inside.level (first + i)) key
    ∙ ap (λ (p : PlanSeen). coin_at (coin_key p.verify share.id) p.level (first + i)) c.plan.view_is in
    let square : mul c.index-drawn-place.result c.index-drawn-place.result ≡ squared r (first + i) = ap (λ n. mul n n) r_is in
    record {
      x = weighted-step r first d i qs q c.loop-place.sums.x c.with-sums.result.x c.index-drawn-place.result c.node.inside.d below is c.loop-place.invariant.x r_is d_is c.with-sums.ensures.x;
      y = weighted-step (squared r) first d i qs q c.loop-place.sums.y c.with-sums.result.y (mul c.index-drawn-place.result c.index-drawn-place.result) c.node.inside.d below is
          c.loop-place.invariant.y square d_is c.with-sums.ensures.y;
      z = weighted-step r first e i qs q c.loop-place.sums.z c.with-sums.result.z c.index-drawn-place.result c.node.inside.e below is c.loop-place.invariant.z r_is e_is c.with-sums.ensures.z;
    }
