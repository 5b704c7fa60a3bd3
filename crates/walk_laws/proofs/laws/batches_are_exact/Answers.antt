use Rattle.walk_laws.proofs.Batches.{batch_is_exact}
use Rattle.walk_laws.proofs.laws.batches_are_exact.Goals as goal

pub returns : goal.returns
returns c = record { batch = batch_is_exact }
