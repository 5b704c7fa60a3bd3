use Rattle.std.proofs.Common.{rules, ◌≡◌, ◌∙◌, ap, arith, slice_index_or}
use Rattle.definitions.specs.Evaluation.{child}
use Rattle.node_growth.specs.Steps.{Step, child_of}
use Rattle.node_growth.proofs.Filling.{filled_more, parent_is, within_at}
use Rattle.node_growth.proofs.growth.finish.Goals as goal

pub loop-k-preserved : goal.loop-k-preserved
loop-k-preserved c = record {
  same = search rules;
  done =
      let step : Step = record { from = c.step.inside.from; bit = c.step.inside.bit } in
      let is : step ≡ slice_index_or c.args.steps.now c.loop-k.k step = search rules in
      filled_more (child_of c.args.word.now c.args.side c.args.nodes.now) c.args.steps.now c.loop-k.into c.loop-k.k step step _ (omega arith) (omega arith)
      c.loop-k.invariant.done is
      (c.finished.ensures.node
      ∙ ap (λ n. child c.args.word.now c.args.side n step.bit) (parent_is c.args.nodes.now step _ (within_at _ c.args.steps.now c.loop-k.k step step c.requires.within (omega arith) is) c.index-nodes-step.is));
}
