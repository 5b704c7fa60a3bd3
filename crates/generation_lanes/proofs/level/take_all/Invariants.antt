use Rattle.std.proofs.Common.{◌≡◌, ◌++◌, map, take, drop}
use Rattle.generation_lanes.specs.Growing.{one_level}
use Rattle.generation_lanes.proofs.level.take_all.Given as goal

abbrev pub invariant-loop-k : goal.invariant-loop-k
invariant-loop-k l = l.lines ≡ map one_level (take l.k l.initial.lines) ++ drop l.k l.initial.lines
