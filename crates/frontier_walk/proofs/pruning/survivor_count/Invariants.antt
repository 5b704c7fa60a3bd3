use Rattle.std.proofs.Common.{◌≡◌, ◌≤◌, ◌+◌, drop, length}
use Rattle.walk_definitions.specs.Walk.{survivors}
use Rattle.frontier_walk.proofs.pruning.survivor_count.Given as goal

abbrev pub invariant-loop-total : goal.invariant-loop-total
invariant-loop-total l = record {
  counted : l.count + length (survivors l.threshold (drop l.total-index l.candidates) (drop l.total-index l.totals)) ≡ length (survivors l.threshold l.candidates l.totals);
  most : l.count ≤ l.total-index;
}
