use Rattle.std.proofs.Common.{length}
use Rattle.definitions.specs.Words.{extend, convert}
use Rattle.definitions.specs.Evaluation.{Node}
use Rattle.node_growth.specs.Steps.{seed_of}
use Rattle.node_growth.proofs.Filling.{first_of}
use Rattle.node_growth.proofs.growth.grow_over.Goals as goal

pub correct-requires-clause-children : goal.correct-requires-clause-children
correct-requires-clause-children c =
    first_of extend (λ (n : Node). n.seed) c.args.nodes.now c.gather.new.seeds c.extend_first.new.children (length c.args.nodes.now) c.extend_first.ensures.children c.gather.ensures.seeds

pub finish-requires-clause-children : goal.finish-requires-clause-children
finish-requires-clause-children c =
    first_of extend (λ (n : Node). n.seed) c.args.nodes.now c.gather.new.seeds c.extend_first.new.children (length c.args.nodes.now) c.extend_first.ensures.children c.gather.ensures.seeds

pub finish-requires-clause-converted : goal.finish-requires-clause-converted
finish-requires-clause-converted c =
    first_of convert (seed_of c.args.word.now c.args.nodes.now) c.args.steps.now c.correct.new.seeds c.convert_first.new.converted (length c.args.steps.now) c.convert_first.ensures.converted c.correct.ensures.seeds
