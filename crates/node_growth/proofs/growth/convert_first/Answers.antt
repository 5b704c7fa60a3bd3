use Rattle.definitions.specs.Words.{convert}
use Rattle.node_growth.proofs.Filling.{first_mapped}
use Rattle.node_growth.proofs.growth.convert_first.Goals as goal

pub returns-clause-converted : goal.returns-clause-converted
returns-clause-converted c =
    first_mapped convert c.args.seeds.now c.convert_many.new.out _ c.args.count c.requires.room c.convert_many.ensures.value
