use Rattle.std.proofs.Common.{◌≡◌, length, map, take}
use Rattle.generation_lanes.specs.Seeds.{seed_at}
use Rattle.generation_lanes.proofs.level.gather.Given as goal

abbrev pub invariant-loop-k : goal.invariant-loop-k
invariant-loop-k l = record {
  same : length l.seeds ≡ length l.lines;
  done : take l.k l.seeds ≡ map (seed_at l.which) (take l.k l.lines);
}
