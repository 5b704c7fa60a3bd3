use Rattle.std.proofs.Common.{arith, length, ◌∙◌}
use Rattle.walk_definitions.specs.Messages.{heading}
use Rattle.peer_exchange.specs.Kinds.{kind_number}
use Rattle.peer_exchange.proofs.Spelled.{spelled-more}
use Rattle.peer_exchange.proofs.spelling.spelled_message.Goals as goal

pub loop-number-preserved : goal.loop-number-preserved
loop-number-preserved c =
    spelled-more (heading (kind_number c.args.kind) c.args.level (length c.args.numbers.now)) c.loop-number.bytes.items
    c.extend_from_slice-in-loop-number.new.self.items c.write_u64.new.buf c.args.numbers.now c.loop-number.number-index c.number.result c.number-item.result
    (omega arith) c.loop-number.invariant c.in_ok-extend_from_slice-2.ensures.items c.write_u64.ensures (c.number.ensures.value ∙ c.number-item.is)
