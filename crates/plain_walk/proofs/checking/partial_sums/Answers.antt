use Rattle.std.proofs.Common.{◌≡◌, ◌∙◌, refl, ap, length, arith}
use Rattle.std.specs.Prelude.{List, Bool, ◌<◌}
use Rattle.definitions.specs.Field.{mul}
use Rattle.definitions.specs.Evaluation.{node}
use Rattle.definitions.specs.Sketch.{coin_at, squared}
use Rattle.plain_walk.proofs.WalkSteps.{weighted-step}
use Rattle.plain_walk.proofs.checking.partial_sums.Goals as goal

pub loop-place-preserved : goal.loop-place-preserved
loop-place-preserved c =
    let r = coin_at c.args.key.now c.args.level in
    let d = λ (q : List Bool). (node c.args.share.now c.args.side q).d in
    let e = λ (q : List Bool). (node c.args.share.now c.args.side q).e in
    let i = c.loop-place.place in
    let qs = c.args.candidates.now in
    let q = c.index-candidates-place.result in
    let is = c.index-candidates-place.is in
    let coin = c.coin.result in
    let below : i < length qs = omega arith in
    let square : mul coin coin ≡ squared r i = ap (λ n. mul n n) c.coin.ensures.value in
    let d_is : c.node.inside.d ≡ d q = ap (λ n. n.d) c.node.view_is ∙ ap (λ n. n.d) c.eval_uncounted-node.ensures.value in
    let e_is : c.node.inside.e ≡ e q = ap (λ n. n.e) c.node.view_is ∙ ap (λ n. n.e) c.eval_uncounted-node.ensures.value in
    record {
      x = weighted-step r d i qs q c.loop-place.sums.x c.with-sums.result.x coin c.node.inside.d (mul coin c.node.inside.d) below is
          c.loop-place.invariant.x c.coin.ensures.value d_is refl c.with-sums.ensures.x;
      y = weighted-step (squared r) d i qs q c.loop-place.sums.y c.with-sums.result.y (mul coin coin) c.node.inside.d (mul (mul coin coin) c.node.inside.d) below is
          c.loop-place.invariant.y square d_is refl c.with-sums.ensures.y;
      z = weighted-step r e i qs q c.loop-place.sums.z c.with-sums.result.z coin c.node.inside.e (mul coin c.node.inside.e) below is
          c.loop-place.invariant.z c.coin.ensures.value e_is refl c.with-sums.ensures.z;
    }
