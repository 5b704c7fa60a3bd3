use Rattle.std.proofs.Common.{◌≡◌, ◌++◌, length, take}
use Rattle.walk_definitions.specs.Messages.{heading, spelled}
use Rattle.peer_exchange.specs.Kinds.{kind_number}
use Rattle.peer_exchange.proofs.spelling.spelled_message.Given as goal

abbrev pub invariant-loop-number : goal.invariant-loop-number
invariant-loop-number l =
    l.bytes.items ≡ heading (kind_number l.fn.kind) l.level (length l.numbers) ++ spelled (take l.number-index l.numbers)
