use Rattle.list_totals.proofs.Totals.{two_of}
use Rattle.list_totals.proofs.laws.parts_are_at_most_the_total.Goals as goal

pub returns : goal.returns
returns g c = record { parts = two_of }
