use Rattle.pair_shares.proofs.MadeLists.{levels_law}
use Rattle.pair_shares.proofs.laws.made_shares_are_whole.Goals as goal

pub returns : goal.returns
returns c = record { levels = levels_law }
