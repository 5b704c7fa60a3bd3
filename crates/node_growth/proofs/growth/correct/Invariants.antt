use Rattle.std.proofs.Common.{◌≡◌, length, map, take}
use Rattle.node_growth.specs.Steps.{seed_of}
use Rattle.node_growth.proofs.growth.correct.Given as goal

abbrev pub invariant-loop-k : goal.invariant-loop-k
invariant-loop-k l = record {
  same : length l.seeds ≡ length l.initial.seeds;
  done : take l.k l.seeds ≡ map (seed_of l.word l.nodes) (take l.k l.steps);
}
