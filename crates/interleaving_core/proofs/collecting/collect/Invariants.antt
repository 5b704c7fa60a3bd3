use Rattle.std.proofs.Common.{length}
use Rattle.interleaving_core.specs.Collections.{HasCollected}
use Rattle.interleaving_core.proofs.collecting.collect.Given as goal

abbrev pub invariant-events : goal.invariant-events
invariant-events l = HasCollected l.settings l.fn.events l.zero l.one l.events

abbrev pub decreases-events : goal.decreases-events
decreases-events l = length l.events
