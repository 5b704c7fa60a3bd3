use Rattle.generation_laws.proofs.HonestLaws.{honest_law}
use Rattle.generation_laws.proofs.generated_pairs_pass.Goals as goal

pub returns : goal.returns
returns c = record { honest = honest_law }
