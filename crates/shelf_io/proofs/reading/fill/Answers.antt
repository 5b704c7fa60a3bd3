use Rattle.std.proofs.Common.{rules, ◌-◌, length, arith, ◌∙◌}
use Rattle.shelf_io.proofs.ReadSteps.{more_there, rest_read}
use Rattle.shelf_io.proofs.reading.fill.Goals as goal

pub loop-filled-preserved : goal.loop-filled-preserved
loop-filled-preserved g c = record {
  within = search rules;
  long = search rules;
  rest = rest_read c.loop-filled.filled c.in_ok-n.n c.loop-filled.into c.read.new.into c.args.into.now c.loop-filled.invariant.within c.in_ok-n.ensures.rest c.loop-filled.invariant.rest;
  kept = c.in_ok-n.ensures.kept ∙ c.loop-filled.invariant.kept;
  count = omega (arith, c.loop-filled.invariant.count, c.in_ok-n.ensures.cause.later);
  bytes = more_there (g.H.Shelf.files c.args.shelf.now) (g.H.Shelf.files c.loop-filled.shelf) c.args.name.now c.loop-filled.filled c.in_ok-n.n
      (length c.loop-filled.into - c.loop-filled.filled) c.args.from c.loop-filled.into c.read.new.into
      c.loop-filled.invariant.kept c.loop-filled.invariant.within (search rules) c.loop-filled.invariant.bytes c.in_ok-n.ensures.bytes;
}
