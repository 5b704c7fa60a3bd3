use Rattle.std.proofs.Common.{length}
use Rattle.core_definitions.specs.System.{sealed}
use Rattle.interleaving_core.specs.Turns.{HasTurned}
use Rattle.interleaving_core.proofs.running.walk.Given as goal

abbrev pub invariant-phases : goal.invariant-phases
invariant-phases l = HasTurned l.settings (sealed l.settings l.fn.batch) l.fn.events l.walker l.events

abbrev pub decreases-phases : goal.decreases-phases
decreases-phases l = length l.events
