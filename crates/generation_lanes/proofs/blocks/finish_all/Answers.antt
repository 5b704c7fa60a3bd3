use Rattle.generation_lanes.specs.Growing.{zero_made, one_made}
use Rattle.generation_lanes.proofs.LineSteps.{share_more}
use Rattle.generation_lanes.proofs.blocks.finish_all.Goals as goal

pub loop-line-preserved : goal.loop-line-preserved
loop-line-preserved c = record {
  zeros =
      share_more zero_made c.args.zeros.now.items c.loop-line.zeros.items c.push.new.self.items c.loop-line.yielded c.in-Some.line _
      c.in_ok-push.ensures.items c.loop-line.invariant.zeros c.finish-zero.ensures.zero;
  ones =
      share_more one_made c.args.ones.now.items c.loop-line.ones.items c.push-in-loop-line.new.self.items c.loop-line.yielded c.in-Some.line _
      c.in_ok-push-2.ensures.items c.loop-line.invariant.ones c.finish-zero.ensures.one;
}
