use Rattle.peer_exchange.proofs.Fronts.{expected_law}
use Rattle.peer_exchange.proofs.laws.the_expected_message_is_read.Goals as goal

pub returns : goal.returns
returns c = record { expected = expected_law }
