use Rattle.std.proofs.Common.{rules, arith, ◌-◌, ◌∙◌}
use Rattle.node_growth.proofs.Planning.{planned_more, step_is}
use Rattle.node_growth.proofs.plan.plan_steps.Goals as goal

pub loop-k-preserved : goal.loop-k-preserved
loop-k-preserved c = record {
  same = search rules;
  planned =
      planned_more c.args.prefixes.now c.args.depth c.args.parents c.args.places.now c.loop-k.places c.loop-k.steps c.add_step-made.new.steps c.loop-k.made
      c.add_step-made.result c.loop-k.k (c.add_step-made.result - 1) c.loop-k.invariant.planned (omega arith) c.add_step-made.ensures.low c.add_step-made.ensures.high
      (omega arith) c.add_step-made.ensures.kept
      (c.add_step-made.ensures.own
      ∙ step_is c.args.prefixes.now c.args.depth c.args.places.now c.loop-k.k _ c.index-prefixes-k.result c.bit.result (omega arith) c.index-prefixes-k.is c.bit.ensures
      (search (rules, c.loop-k.invariant.planned.rest)))
      c.add_step-made.ensures.apart
      (search rules);
}
