use Rattle.std.proofs.Common.{◌≡◌}
use Rattle.core_definitions.specs.System.{places}
use Rattle.interleaving_core.proofs.walks.all_places.Given as goal

abbrev pub invariant-loop-place : goal.invariant-loop-place
invariant-loop-place l = l.live.items ≡ places 0 l.place
