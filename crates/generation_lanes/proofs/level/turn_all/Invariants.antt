use Rattle.std.proofs.Common.{◌≡◌, length, map, take}
use Rattle.generation_lanes.specs.Growing.{turn_of}
use Rattle.generation_lanes.proofs.level.turn_all.Given as goal

abbrev pub invariant-loop-k : goal.invariant-loop-k
invariant-loop-k l = record {
  same : length l.turns ≡ length l.lines;
  done : take l.k l.turns ≡ map turn_of (take l.k l.lines);
}
