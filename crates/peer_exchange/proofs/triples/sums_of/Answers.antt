use Rattle.std.proofs.Common.{rules, arith}
use Rattle.peer_exchange.proofs.Flats.{sums_more}
use Rattle.peer_exchange.proofs.triples.sums_of.Goals as goal

pub loop-i-preserved : goal.loop-i-preserved
loop-i-preserved c = record {
  count = search rules;
  elements = sums_more c.loop-i.sums.items c.push.new.self.items c.args.numbers.now c.loop-i.i
      c.index-numbers-i.result c.index-numbers-i-in-loop-i.result c.index-numbers-i-in-loop-i-2.result
      (omega (arith, c.requires.threes)) c.loop-i.invariant.elements c.in_ok-push.ensures.items
      c.index-numbers-i.is c.index-numbers-i-in-loop-i.is c.index-numbers-i-in-loop-i-2.is;
}
