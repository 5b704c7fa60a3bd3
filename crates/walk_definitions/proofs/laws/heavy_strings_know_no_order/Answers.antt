use Rattle.walk_definitions.proofs.HeavyOrder.{order_law}
use Rattle.walk_definitions.proofs.laws.heavy_strings_know_no_order.Goals as goal

pub returns : goal.returns
returns c = record { order = order_law }
