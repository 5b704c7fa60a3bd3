use Rattle.std.proofs.Common.{length}
use Rattle.interleaving_core.specs.Sides.{HasRun}
use Rattle.interleaving_core.proofs.phases.take_events.Given as goal

abbrev pub invariant-events : goal.invariant-events
invariant-events l = HasRun l.settings l.stage l.fn.sides l.fn.events l.sides l.events

abbrev pub decreases-events : goal.decreases-events
decreases-events l = length l.events
