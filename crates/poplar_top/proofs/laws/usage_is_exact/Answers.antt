use Rattle.poplar_top.proofs.StatusLaws.{usage_law}
use Rattle.poplar_top.proofs.laws.usage_is_exact.Goals as goal

pub returns : goal.returns
returns c = record { usage = usage_law }
