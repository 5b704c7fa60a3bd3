use Rattle.poplar_top.proofs.StatusLaws.{sink_law}
use Rattle.poplar_top.proofs.laws.sink_faults_are_exact.Goals as goal

pub returns : goal.returns
returns c = record { faults = sink_law }
