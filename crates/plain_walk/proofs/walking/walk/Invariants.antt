use Rattle.std.proofs.Common.{◌≡◌, ◌-◌, length}
use Rattle.plain_walk.specs.Chosen.{chosen}
use Rattle.plain_walk.proofs.WholeWalk.{HasWalked}
use Rattle.plain_walk.proofs.walking.walk.Given as goal

abbrev pub invariant-levels : goal.invariant-levels
invariant-levels l = record {
  flags : length l.alive.items ≡ length l.batch;
  walked : HasWalked l.settings l.batch (chosen l.alive.items l.batch) l.frontier;
}

abbrev pub decreases-levels : goal.decreases-levels
decreases-levels l = l.settings.bits - l.frontier.level
