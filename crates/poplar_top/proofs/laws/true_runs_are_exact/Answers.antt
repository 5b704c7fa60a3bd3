use Rattle.poplar_top.proofs.RunLaws.{true_law}
use Rattle.poplar_top.proofs.laws.true_runs_are_exact.Goals as goal

pub returns : goal.returns
returns c = record { runs = true_law }
