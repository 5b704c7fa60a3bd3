use Rattle.std.proofs.Common.{rules, ◌≡◌, ◌∙◌, ap, arith, slice_index_or}
use Rattle.definitions.specs.Evaluation.{child_seed}
use Rattle.node_growth.specs.Steps.{Step, seed_of}
use Rattle.node_growth.proofs.Filling.{filled_more, parent_is, within_at}
use Rattle.node_growth.proofs.growth.correct.Goals as goal

pub loop-k-preserved : goal.loop-k-preserved
loop-k-preserved c = record {
  same = search rules;
  done =
      let step : Step = record { from = c.step.inside.from; bit = c.step.inside.bit } in
      let is : step ≡ slice_index_or c.args.steps.now c.loop-k.k step = search rules in
      filled_more (seed_of c.args.word.now c.args.nodes.now) c.args.steps.now c.loop-k.seeds c.loop-k.k step step _ (omega arith) (omega arith)
      c.loop-k.invariant.done is
      (c.corrected.ensures.seed
      ∙ ap (λ n. child_seed c.args.word.now n.seed n.bit step.bit) (parent_is c.args.nodes.now step _ (within_at _ c.args.steps.now c.loop-k.k step step c.requires.within (omega arith) is) c.index-nodes-step.is));
}
