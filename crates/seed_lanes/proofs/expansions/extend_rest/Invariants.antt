use Rattle.std.proofs.Common.{◌≡◌, length, map, take}
use Rattle.definitions.specs.Words.{extend}
use Rattle.seed_lanes.proofs.expansions.extend_rest.Given as goal

abbrev pub invariant-loop-place : goal.invariant-loop-place
invariant-loop-place l = record {
  same : length l.out ≡ length l.seeds;
  done : take l.place l.out ≡ map extend (take l.place l.seeds);
}
