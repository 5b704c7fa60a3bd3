use Rattle.std.proofs.Common.{◌≡◌, drop}
use Rattle.std.specs.List.{list_all}
use Rattle.core_definitions.specs.Phase.{is_finished}
use Rattle.half_events.proofs.crews.all_finished.Given as goal

abbrev pub invariant-loop-hand : goal.invariant-loop-hand
invariant-loop-hand l = list_all is_finished (drop l.hand-index l.hands) ≡ list_all is_finished l.hands
