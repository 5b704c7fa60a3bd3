use Rattle.generation_laws.proofs.PointLaws.{point_law}
use Rattle.generation_laws.proofs.pairs_add_up_to_the_point.Goals as goal

pub returns : goal.returns
returns c = record { point = point_law }
