use Rattle.std.proofs.Common.{◌≡◌, take}
use Rattle.walk_definitions.specs.Walk.{own_total}
use Rattle.plain_walk.specs.Chosen.{chosen}
use Rattle.plain_walk.proofs.live.own_total.Given as goal

abbrev pub invariant-loop-k : goal.invariant-loop-k
invariant-loop-k l = l.sum ≡ own_total (chosen (take l.k l.alive) (take l.k l.batch)) l.side l.prefix
