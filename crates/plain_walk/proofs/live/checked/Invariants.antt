use Rattle.std.proofs.Common.{◌≡◌, take, length}
use Rattle.std.specs.List.{filter}
use Rattle.walk_definitions.specs.Walk.{passes}
use Rattle.plain_walk.specs.Chosen.{chosen}
use Rattle.plain_walk.proofs.live.checked.Given as goal

abbrev pub invariant-loop-k : goal.invariant-loop-k
invariant-loop-k l = record {
  long : length l.next.items ≡ l.k;
  live : chosen l.next.items (take l.k l.batch) ≡ filter (passes l.settings l.level l.candidates) (chosen (take l.k l.alive) (take l.k l.batch));
}
