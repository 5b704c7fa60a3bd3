use Rattle.pair_shares.proofs.MadeWalk.{walk_law}
use Rattle.pair_shares.proofs.laws.walks_over_made_pairs_are_exact.Goals as goal

pub returns : goal.returns
returns c = record { walk = walk_law }
