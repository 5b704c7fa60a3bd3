use Rattle.poplar_top.proofs.FindLaws.{search_law}
use Rattle.poplar_top.proofs.laws.true_searches_are_exact.Goals as goal

pub returns : goal.returns
returns c = record { searches = search_law }
