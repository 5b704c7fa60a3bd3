use Rattle.std.proofs.Common.{◌≡◌, length, map, take}
use Rattle.definitions.specs.Words.{convert}
use Rattle.seed_lanes.proofs.conversions.convert_rest.Given as goal

abbrev pub invariant-loop-place : goal.invariant-loop-place
invariant-loop-place l = record {
  same : length l.out ≡ length l.seeds;
  done : take l.place l.out ≡ map convert (take l.place l.seeds);
}
