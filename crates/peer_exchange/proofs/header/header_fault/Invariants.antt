use Rattle.std.proofs.Common.{◌≡◌, ◌≤◌, length, drop}
use Rattle.walk_definitions.specs.Messages.{heading_fault}
use Rattle.peer_exchange.proofs.header.header_fault.Given as goal

abbrev pub invariant-loop-at : goal.invariant-loop-at
invariant-loop-at l = record {
  inside : l.at ≤ length l.bytes;
  same : heading_fault l.header l.bytes 0 ≡ heading_fault (drop l.at l.header) (drop l.at l.bytes) l.at;
}
