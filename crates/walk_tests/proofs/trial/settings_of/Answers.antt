use Rattle.walk_tests.proofs.Tiles.{few_tiles}
use Rattle.walk_tests.proofs.trial.settings_of.Goals as goal

pub returns-clause-tiles : goal.returns-clause-tiles
returns-clause-tiles c = λ reports few. few_tiles reports c.args.way.now.by_reports c.args.way.now.by_candidates few
