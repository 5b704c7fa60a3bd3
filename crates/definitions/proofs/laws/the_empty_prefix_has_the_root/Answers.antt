use Rattle.definitions.proofs.EvaluationLaws.{root_law}
use Rattle.definitions.proofs.laws.the_empty_prefix_has_the_root.Goals as goal

pub returns : goal.returns
returns c = record { root = root_law }
