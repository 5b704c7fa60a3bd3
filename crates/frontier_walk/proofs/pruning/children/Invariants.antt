use Rattle.std.proofs.Common.{◌≡◌, ◌++◌, drop}
use Rattle.walk_definitions.specs.Walk.{children}
use Rattle.frontier_walk.proofs.pruning.children.Given as goal

abbrev pub invariant-loop-heavy : goal.invariant-loop-heavy
invariant-loop-heavy l = l.next.items ++ children (drop l.heavy-index l.found) ≡ children l.found
