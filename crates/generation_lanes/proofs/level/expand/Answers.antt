use Rattle.std.proofs.Common.{map, ap, ◌∙◌}
use Rattle.node_growth.proofs.Filling.{map_of_map}
use Rattle.definitions.specs.Words.{extend}
use Rattle.generation_lanes.specs.Seeds.{seed_at}
use Rattle.generation_lanes.proofs.level.expand.Goals as goal

pub returns-clause-children : goal.returns-clause-children
returns-clause-children c =
    c.extend_many.ensures.value ∙ ap (map extend) c.gather.ensures.seeds ∙ map_of_map extend (seed_at c.args.which) c.args.lines.now
