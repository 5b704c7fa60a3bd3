use Rattle.peer_exchange.proofs.Received.{received_twice, waiting_law}
use Rattle.peer_exchange.proofs.laws.receives_add_up.Goals as goal

pub returns : goal.returns
returns c = record { twice = received_twice; waiting = waiting_law }
