use Rattle.std.proofs.Common.{◌≡◌, ◌*◌, length, take}
use Rattle.walk_definitions.specs.Messages.{flat}
use Rattle.peer_exchange.proofs.triples.sums_of.Given as goal

abbrev pub invariant-loop-i : goal.invariant-loop-i
invariant-loop-i l = record {
  count : length l.sums.items ≡ l.i;
  elements : flat l.sums.items ≡ take (3 * l.i) l.numbers;
}
