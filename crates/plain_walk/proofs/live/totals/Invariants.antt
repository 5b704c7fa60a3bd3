use Rattle.std.proofs.Common.{◌≡◌, take}
use Rattle.std.specs.Prelude.{map}
use Rattle.walk_definitions.specs.Walk.{total}
use Rattle.plain_walk.specs.Chosen.{chosen}
use Rattle.plain_walk.proofs.live.totals.Given as goal

abbrev pub invariant-loop-prefix : goal.invariant-loop-prefix
invariant-loop-prefix l = l.sums.items ≡ map (total (chosen l.alive l.batch)) (take l.prefix-index l.candidates)
