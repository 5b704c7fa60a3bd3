use Rattle.std.proofs.Common.{◌≡◌, ◌≤◌, ◌+◌, ◌*◌, ◌-◌, length, drop}
use Rattle.walk_definitions.specs.Messages.{numbers_in}
use Rattle.peer_exchange.proofs.Numbers.{read_after}
use Rattle.peer_exchange.proofs.reading.read_numbers.Given as goal

abbrev pub invariant-loop-i : goal.invariant-loop-i
invariant-loop-i l = record {
  inside : 7 + 8 * l.i ≤ length l.bytes;
  count : length l.numbers.items ≡ l.i;
  same : numbers_in l.count 7 (drop 7 l.bytes)
      ≡ read_after l.numbers.items (numbers_in (l.count - l.i) (7 + 8 * l.i) (drop (7 + 8 * l.i) l.bytes));
}
