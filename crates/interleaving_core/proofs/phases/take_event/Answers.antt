use Rattle.interleaving_core.proofs.Stepping.{carry-taken, nothing-stepped}
use Rattle.interleaving_core.proofs.phases.take_event.Goals as goal

pub returns-in-Carry : goal.returns-in-Carry
returns-in-Carry c =
    carry-taken c.args.settings.now c.args.stage.now c.args.sides.now c.args.event.now c.are_complete.result c.in-Carry.is c.requires.sides c.are_complete.ensures

pub returns-in_default-at_side : goal.returns-in_default-at_side
returns-in_default-at_side c =
    nothing-stepped c.args.settings.now c.args.stage.now c.args.sides.now c.args.event.now c.requires.sides c.in_default.not-Carry c.in_default-at_side.ensures.none
