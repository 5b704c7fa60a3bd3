use Rattle.peer_exchange.proofs.Fronts.{front_law}
use Rattle.peer_exchange.proofs.laws.bytes_behind_a_message_do_not_matter.Goals as goal

pub returns : goal.returns
returns c = record { front = front_law }
