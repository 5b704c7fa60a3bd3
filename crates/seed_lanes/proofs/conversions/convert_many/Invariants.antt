use Rattle.std.proofs.Common.{◌≡◌, ◌*◌, length, map, take}
use Rattle.definitions.specs.Words.{convert}
use Rattle.seed_lanes.proofs.conversions.convert_many.Given as goal

abbrev pub invariant-loop-k : goal.invariant-loop-k
invariant-loop-k l = record {
  same : length l.out ≡ length l.seeds;
  done : take (8 * l.k) l.out ≡ map convert (take (8 * l.k) l.seeds);
}
