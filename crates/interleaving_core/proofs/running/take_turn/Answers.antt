use Rattle.std.proofs.Common.{sym, subst}
use Rattle.prefix_bits.specs.declared.TheConstants.{MOST_BITS}
use Rattle.half_events.specs.Stages.{IsStage}
use Rattle.interleaving_core.proofs.Fits.{fits-stage}
use Rattle.interleaving_core.proofs.running.take_turn.Goals as goal

pub run_phase-requires-clause-stage : goal.run_phase-requires-clause-stage
run_phase-requires-clause-stage c =
    let told = c.stage-stage.ensures in
    subst (IsStage c.args.settings.now) (sym told.stage)
    (fits-stage MOST_BITS c.args.settings.now c.requires.usable c.args.walker c.requires.ready told.long told.most told.last)
