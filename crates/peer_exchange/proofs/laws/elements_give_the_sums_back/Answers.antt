use Rattle.peer_exchange.proofs.Flats.{unflat-flat}
use Rattle.peer_exchange.proofs.laws.elements_give_the_sums_back.Goals as goal

pub returns : goal.returns
returns c = record { elements = unflat-flat }
