use Rattle.std.proofs.Common.{take}
use Rattle.std.specs.List.{AllByRecursion}
use Rattle.interleaving_core.specs.Events.{HasLevels}
use Rattle.core_tests.proofs.trials.have_levels.Given as goal

abbrev pub invariant-loop-event : goal.invariant-loop-event
invariant-loop-event l = AllByRecursion (HasLevels l.bits) (take l.event-index l.events)
