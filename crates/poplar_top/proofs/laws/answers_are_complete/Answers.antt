use Rattle.poplar_top.proofs.StatusLaws.{answer_law}
use Rattle.poplar_top.proofs.laws.answers_are_complete.Goals as goal

pub returns : goal.returns
returns c = record { complete = answer_law }
