use Rattle.poplar_top.proofs.StatusLaws.{link_law}
use Rattle.poplar_top.proofs.laws.walk_faults_are_exact.Goals as goal

pub returns : goal.returns
returns c = record { faults = link_law }
