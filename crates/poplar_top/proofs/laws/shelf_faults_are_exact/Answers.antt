use Rattle.poplar_top.proofs.StatusLaws.{shelf_law}
use Rattle.poplar_top.proofs.laws.shelf_faults_are_exact.Goals as goal

pub returns : goal.returns
returns c = record { faults = shelf_law }
