use Rattle.list_totals.proofs.Totals.{total_set}
use Rattle.list_totals.proofs.laws.a_change_moves_the_total.Goals as goal

pub returns : goal.returns
returns g c = record { change = total_set }
