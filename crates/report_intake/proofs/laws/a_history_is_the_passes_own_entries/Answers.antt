use Rattle.report_intake.proofs.Own.{own_law}
use Rattle.report_intake.proofs.laws.a_history_is_the_passes_own_entries.Goals as goal

pub returns : goal.returns
returns c = record { own = own_law }
