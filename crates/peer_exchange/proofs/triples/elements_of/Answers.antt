use Rattle.std.proofs.Common.{arith}
use Rattle.peer_exchange.proofs.Flats.{elements_more}
use Rattle.peer_exchange.proofs.triples.elements_of.Goals as goal

pub loop-each-preserved : goal.loop-each-preserved
loop-each-preserved c =
    elements_more c.args.sums.now c.each-item.result c.each-item.result c.loop-each.each-index c.each.inside.x c.each.inside.y c.each.inside.z
    c.loop-each.numbers.items c.push.new.self.items c.push-in-loop-each.new.self.items c.push-in-loop-each-2.new.self.items
    (omega arith) c.each-item.is c.each.view_is c.loop-each.invariant c.in_ok-push.ensures.items c.in_ok-push-2.ensures.items c.in_ok-push-3.ensures.items
