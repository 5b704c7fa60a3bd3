use Rattle.std.proofs.Common.{◌<◌, false, sym, ◌∙◌, get_or, length, refl, arith}
use Rattle.definitions.specs.Evaluation.{node}
use Rattle.definitions.proofs.FieldLaws.{total_by-nil}
use Rattle.walk_definitions.specs.Reports.{held}
use Rattle.plain_walk.proofs.WalkSteps.{total-step}
use Rattle.plain_walk.proofs.live.own_total.Goals as goal

pub loop-k-init : goal.loop-k-init
loop-k-init c = c.zero-sum.ensures.value ∙ sym (total_by-nil (λ r. (node (held r c.args.side) c.args.side c.args.prefix.now).d))

pub loop-k-preserved : goal.loop-k-preserved
loop-k-preserved c =
    let below : c.loop-k.k < length c.args.alive.now = omega arith in
    total-step (λ r. (node (held r c.args.side) c.args.side c.args.prefix.now).d) c.loop-k.k c.args.alive.now c.args.batch.now
    (get_or c.args.alive.now c.loop-k.k false) c.index-batch-k.result c.loop-k.sum c.add-sum.result c.value_if.result
    below c.requires.flags refl c.index-batch-k.is c.loop-k.invariant c.value_if.ensures.value c.add-sum.ensures.value
