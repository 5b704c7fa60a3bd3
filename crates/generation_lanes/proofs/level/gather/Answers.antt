use Rattle.std.proofs.Common.{rules, arith}
use Rattle.node_growth.proofs.Filling.{filled_more}
use Rattle.generation_lanes.specs.Seeds.{seed_at}
use Rattle.generation_lanes.proofs.level.gather.Goals as goal

pub loop-k-preserved : goal.loop-k-preserved
loop-k-preserved c = record {
  same = search rules;
  done =
      filled_more (seed_at c.args.which) c.args.lines.now c.loop-k.seeds c.loop-k.k _ _ _ (omega arith) (omega arith) c.loop-k.invariant.done
      c.index-lines-k.is c.seed.ensures;
}
