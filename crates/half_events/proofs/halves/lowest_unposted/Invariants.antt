use Rattle.std.proofs.Common.{◌≡◌, ◌-◌}
use Rattle.core_definitions.specs.Phase.{unposted}
use Rattle.half_events.proofs.halves.lowest_unposted.Given as goal

abbrev pub invariant-loop-tile : goal.invariant-loop-tile
invariant-loop-tile l = unposted l.state.log l.tile (l.tiles - l.tile) ≡ unposted l.state.log 0 l.tiles
