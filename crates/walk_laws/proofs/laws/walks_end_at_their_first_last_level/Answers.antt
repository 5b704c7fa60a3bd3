use Rattle.walk_laws.proofs.Ends.{ending_law, walk_end_law}
use Rattle.walk_laws.proofs.laws.walks_end_at_their_first_last_level.Goals as goal

pub returns : goal.returns
returns c = record { ending = ending_law; walk = walk_end_law }
