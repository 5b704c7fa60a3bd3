use Rattle.pair_shares.proofs.MadeBatch.{batch_law}
use Rattle.pair_shares.proofs.laws.made_pairs_are_the_batch.Goals as goal

pub returns : goal.returns
returns c = record { batch = batch_law }
