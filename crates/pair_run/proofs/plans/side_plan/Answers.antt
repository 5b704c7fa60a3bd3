use Rattle.prefix_bits.specs.declared.TheConstants.{MOST_BITS}
use Rattle.pair_run.proofs.Phases.{made_fits, few_tiles}
use Rattle.pair_run.proofs.plans.side_plan.Goals as goal

pub new-requires-clause-few : goal.new-requires-clause-few
new-requires-clause-few c =
    few_tiles c.args.settings.now c.args.kind c.args.level c.args.candidates.now c.args.batch.now c.args.live.now MOST_BITS
    c.requires.settings c.requires.few c.requires.within c.requires.tiles

pub returns-clause-fits : goal.returns-clause-fits
returns-clause-fits c =
    made_fits c.args.settings.now c.args.kind c.args.level c.args.candidates.now c.args.batch.now c.args.live.now c.args.side c.shares.result.now c.new.result
    c.shares.ensures.shares c.new.ensures MOST_BITS c.requires.settings c.requires.few c.requires.long c.requires.levels c.requires.places
