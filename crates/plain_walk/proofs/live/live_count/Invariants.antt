use Rattle.std.proofs.Common.{◌≡◌, ◌≤◌, take, length}
use Rattle.plain_walk.specs.Chosen.{chosen}
use Rattle.plain_walk.proofs.live.live_count.Given as goal

abbrev pub invariant-loop-k : goal.invariant-loop-k
invariant-loop-k l = record {
  live : l.count ≡ length (chosen (take l.k l.alive) (take l.k l.batch));
  most : l.count ≤ l.k;
}
