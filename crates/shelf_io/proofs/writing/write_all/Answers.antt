use Rattle.std.proofs.Common.{arith}
use Rattle.shelf_io.proofs.TextLaws.{grew_more}
use Rattle.shelf_io.proofs.writing.write_all.Goals as goal

pub loop-done-preserved : goal.loop-done-preserved
loop-done-preserved g c = record {
  within = omega (arith, c.in_ok-done.ensures.within);
  written = grew_more _ _ _ c.args.text.now c.loop-done.done c.in_ok-done.field-0 c.loop-done.invariant.written c.in_ok-done.ensures.took;
  count = omega (arith, c.in_ok-done.ensures.cause.later);
}
