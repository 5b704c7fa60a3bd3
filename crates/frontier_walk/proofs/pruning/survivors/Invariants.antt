use Rattle.std.proofs.Common.{◌≡◌, ◌++◌, drop}
use Rattle.walk_definitions.specs.Walk.{survivors}
use Rattle.frontier_walk.proofs.pruning.survivors.Given as goal

abbrev pub invariant-loop-place : goal.invariant-loop-place
invariant-loop-place l =
    l.found.items ++ survivors l.threshold (drop l.place l.candidates) (drop l.place l.totals) ≡ survivors l.threshold l.candidates l.totals
