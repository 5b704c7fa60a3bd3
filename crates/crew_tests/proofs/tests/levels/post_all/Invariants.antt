use Rattle.std.proofs.Common.{◌≡◌}
use Rattle.lock_row.specs.Rows.{locks_of}
use Rattle.phase_state.specs.Rooms.{HasRoom}
use Rattle.crew_tests.proofs.tests.levels.post_all.Given as goal

abbrev pub invariant-loop-tile : goal.invariant-loop-tile
invariant-loop-tile g l = (locks_of l.pass ≡ l.level.locks) × HasRoom l.level.plan.tiles l.room.reports l.room.candidates
