use Rattle.interleaving_core.proofs.Stepping.{run-carried}
use Rattle.interleaving_core.proofs.phases.take_events.Goals as goal

pub returns-then-branch : goal.returns-then-branch
returns-then-branch c =
    run-carried c.args.settings.now c.args.stage.now c.args.sides.now c.args.events.now c.events.sides c.take_event.new.sides c.events.events c.next.new.self c.in-Some.event
    c.in_ok-take_event.field-0 c.events.invariant c.in-Some.ensures.some c.if-branch.true c.in_ok-take_event.ensures
