use Rattle.file_run.proofs.Bounds.{few_tiles}
use Rattle.file_find.proofs.rules.walk_settings.Goals as goal

pub returns-clause-tiles : goal.returns-clause-tiles
returns-clause-tiles c = λ reports few. few_tiles c.args.rules.now.cap reports c.requires.rules.small_cap few
