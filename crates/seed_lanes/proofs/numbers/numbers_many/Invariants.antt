use Rattle.std.proofs.Common.{◌≡◌, ◌*◌, length, map, take}
use Rattle.seed_lanes.specs.Blocks.{numbers_of}
use Rattle.seed_lanes.proofs.numbers.numbers_many.Given as goal

abbrev pub invariant-loop-k : goal.invariant-loop-k
invariant-loop-k l = record {
  same : length l.out ≡ length l.seeds;
  done : take (8 * l.k) l.out ≡ map (numbers_of l.stream) (take (8 * l.k) l.seeds);
}
