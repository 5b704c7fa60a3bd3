use Rattle.std.proofs.Common.{rules, arith}
use Rattle.node_growth.proofs.Filling.{filled_more}
use Rattle.generation_lanes.specs.Growing.{turn_of}
use Rattle.generation_lanes.proofs.level.turn_all.Goals as goal

pub loop-k-preserved : goal.loop-k-preserved
loop-k-preserved c = record {
  same = search rules;
  done =
      filled_more turn_of c.args.lines.now c.loop-k.turns c.loop-k.k _ _ _ (omega arith) (omega arith) c.loop-k.invariant.done
      c.index-lines-k.is c.turn.ensures;
}
