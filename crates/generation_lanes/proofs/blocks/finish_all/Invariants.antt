use Rattle.std.proofs.Common.{◌≡◌, ◌++◌, map}
use Rattle.generation_lanes.specs.Growing.{zero_made, one_made}
use Rattle.generation_lanes.proofs.blocks.finish_all.Given as goal

abbrev pub invariant-loop-line : goal.invariant-loop-line
invariant-loop-line l = record {
  zeros : l.zeros.items ≡ l.initial.zeros.items ++ map zero_made l.yielded;
  ones : l.ones.items ≡ l.initial.ones.items ++ map one_made l.yielded;
}
