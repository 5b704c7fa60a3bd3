use Rattle.std.proofs.Common.{rules, ◌≡◌, ◌<◌, ◌+◌, ◌∙◌, ap, length, arith}
use Rattle.std.proofs.lemmas.List.{get_or_read}
use Rattle.definitions.specs.Field.{mul}
use Rattle.definitions.specs.Evaluation.{Node}
use Rattle.definitions.specs.Sketch.{coin_at, squared}
use Rattle.phase_state.proofs.Steps.{weighted-step}
use Rattle.tile_filling.proofs.adding.sums_of.Goals as goal

pub loop-place-preserved : goal.loop-place-preserved
loop-place-preserved c =
    let r = coin_at c.args.key.now c.args.level in
    let d = λ (n : Node). n.d in
    let e = λ (n : Node). n.e in
    let i = c.loop-place.place in
    let first = c.args.first in
    let ns = c.args.nodes.now in
    let n = c.index-nodes-place.result in
    let is = c.index-nodes-place.is in
    let below : i < length ns = omega arith in
    let count : length c.coins.new.into ≡ length ns = search rules in
    let room : i < length c.coins.new.into = omega (arith, count) in
    let r_is : c.index-drawn-place.result ≡ r (first + i) =
    get_or_read c.coins.new.into i c.index-drawn-place.result room c.index-drawn-place.is 0 ∙ c.coins.ensures.value i room in
    let square : mul c.index-drawn-place.result c.index-drawn-place.result ≡ squared r (first + i) = ap (λ n. mul n n) r_is in
    let d_is : c.node.inside.d ≡ d n = ap d c.node.view_is in
    let e_is : c.node.inside.e ≡ e n = ap e c.node.view_is in
    record {
      x = weighted-step r first d i ns n c.loop-place.sums.x c.with-sums.result.x c.index-drawn-place.result c.node.inside.d below is c.loop-place.invariant.x r_is d_is c.with-sums.ensures.x;
      y = weighted-step (squared r) first d i ns n c.loop-place.sums.y c.with-sums.result.y (mul c.index-drawn-place.result c.index-drawn-place.result) c.node.inside.d below is
          c.loop-place.invariant.y square d_is c.with-sums.ensures.y;
      z = weighted-step r first e i ns n c.loop-place.sums.z c.with-sums.result.z c.index-drawn-place.result c.node.inside.e below is c.loop-place.invariant.z r_is e_is c.with-sums.ensures.z;
    }
