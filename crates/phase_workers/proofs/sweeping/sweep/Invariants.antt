use Rattle.std.proofs.Common.{◌≡◌}
use Rattle.phase_state.specs.Rooms.{HasRoom}
use Rattle.phase_workers.specs.Crews.{Swept}
use Rattle.phase_workers.proofs.sweeping.sweep.Given as goal

abbrev pub invariant-loop-tile : goal.invariant-loop-tile
invariant-loop-tile g l = (l.finished.plan ≡ l.fn.finished.plan) × HasRoom l.plan.tiles l.room.reports l.room.candidates × Swept l.number l.tile l.swept l.fn.finished.log l.finished.log × (l.pass ≡ l.cache.locks)
