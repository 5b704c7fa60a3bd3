use Rattle.std.proofs.Common.{◌≡◌, take}
use Rattle.walk_definitions.specs.Messages.{flat}
use Rattle.peer_exchange.proofs.triples.elements_of.Given as goal

abbrev pub invariant-loop-each : goal.invariant-loop-each
invariant-loop-each l = l.numbers.items ≡ flat (take l.each-index l.sums)
