use Rattle.std.proofs.Common.{◌≡◌, length, map, take}
use Rattle.node_growth.specs.Steps.{child_of}
use Rattle.node_growth.proofs.growth.finish.Given as goal

abbrev pub invariant-loop-k : goal.invariant-loop-k
invariant-loop-k l = record {
  same : length l.into ≡ length l.initial.into;
  done : take l.k l.into ≡ map (child_of l.word l.side l.nodes) (take l.k l.steps);
}
