use Rattle.poplar_top.proofs.StatusLaws.{refusal_law}
use Rattle.poplar_top.proofs.laws.refusals_are_exact.Goals as goal

pub returns : goal.returns
returns c = record { refusals = refusal_law }
