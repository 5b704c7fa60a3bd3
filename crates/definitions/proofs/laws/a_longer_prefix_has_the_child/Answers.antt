use Rattle.definitions.proofs.EvaluationLaws.{child_law}
use Rattle.definitions.proofs.laws.a_longer_prefix_has_the_child.Goals as goal

pub returns : goal.returns
returns c = record { child = child_law }
