use Rattle.std.proofs.Common.{◌≡◌, length, map, take}
use Rattle.seed_lanes.specs.Blocks.{numbers_of}
use Rattle.seed_lanes.proofs.numbers.numbers_rest.Given as goal

abbrev pub invariant-loop-place : goal.invariant-loop-place
invariant-loop-place l = record {
  same : length l.out ≡ length l.seeds;
  done : take l.place l.out ≡ map (numbers_of l.stream) (take l.place l.seeds);
}
