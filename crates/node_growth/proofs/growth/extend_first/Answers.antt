use Rattle.definitions.specs.Words.{extend}
use Rattle.node_growth.proofs.Filling.{first_mapped}
use Rattle.node_growth.proofs.growth.extend_first.Goals as goal

pub returns-clause-children : goal.returns-clause-children
returns-clause-children c =
    first_mapped extend c.args.seeds.now c.extend_many.new.out _ c.args.count c.requires.room c.extend_many.ensures.value
