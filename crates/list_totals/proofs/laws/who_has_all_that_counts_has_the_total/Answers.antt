use Rattle.list_totals.proofs.Totals.{whole}
use Rattle.list_totals.proofs.laws.who_has_all_that_counts_has_the_total.Goals as goal

pub returns : goal.returns
returns g c = record { whole = whole }
