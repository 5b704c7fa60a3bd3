use Rattle.std.proofs.Common.{refl}
use Rattle.prefix_bits.specs.declared.TheConstants.{MOST_BITS}
use Rattle.interleaving_core.proofs.Carries.{cached-zero, cached-one, phase-carried}
use Rattle.interleaving_core.proofs.phases.run_phase.Goals as goal

pub begin_half-requires-clause-cached : goal.begin_half-requires-clause-cached
begin_half-requires-clause-cached c = cached-zero c.args.settings.now c.args.stage.now c.args.zero.items c.args.one.items c.requires.kept

pub begin_half-requires-2-clause-cached : goal.begin_half-requires-2-clause-cached
begin_half-requires-2-clause-cached c = cached-one c.args.settings.now c.args.stage.now c.args.zero.items c.args.one.items c.requires.kept

pub returns : goal.returns
returns c =
    phase-carried c.args.settings.now c.args.stage.now MOST_BITS c.requires.usable (record { zero = c.in_ok-begin_half.field-0; one = c.in_ok-begin_half-2.field-0 })
    c.take_events.new.sides c.args.zero.items c.args.one.items c.args.events.now c.take_events.new.events c.in_ok-take_events.field-0 _ c.requires.kept
    c.in_ok-begin_half.ensures.fresh c.in_ok-begin_half-2.ensures.fresh c.if-not-branch.false c.in_ok-take_events.ensures c.in_ok-found.ensures refl refl
