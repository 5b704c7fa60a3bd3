use Rattle.std.proofs.Common.{◌≡◌, length, map, take}
use Rattle.node_growth.proofs.growth.gather.Given as goal

abbrev pub invariant-loop-k : goal.invariant-loop-k
invariant-loop-k l = record {
  same : length l.seeds ≡ length l.initial.seeds;
  done : take l.k l.seeds ≡ map (λ n. n.seed) (take l.k l.nodes);
}
