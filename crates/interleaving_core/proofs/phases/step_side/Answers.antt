use Rattle.half_events.specs.Steps.{step_of}
use Rattle.interleaving_core.proofs.Stepping.{zero-stepped, one-stepped}
use Rattle.interleaving_core.proofs.phases.step_side.Goals as goal

pub returns-in_ok-step_half-in-Zero : goal.returns-in_ok-step_half-in-Zero
returns-in_ok-step_half-in-Zero c =
    let done = c.in_ok-step_half-in-Zero.ensures in
    zero-stepped c.args.settings.now c.args.stage.now c.args.sides.now c.step_half.new.half (step_of c.args.step) c.args.side c.in-Zero.is c.requires.sides
    done.half done.after done.counter

pub returns-in_ok-step_half-in-One : goal.returns-in_ok-step_half-in-One
returns-in_ok-step_half-in-One c =
    let done = c.in_ok-step_half-in-One.ensures in
    one-stepped c.args.settings.now c.args.stage.now c.args.sides.now c.step_half-in-One.new.half (step_of c.args.step) c.args.side c.in-One.is c.requires.sides
    done.half done.after done.counter
