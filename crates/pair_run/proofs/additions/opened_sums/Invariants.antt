use Rattle.std.proofs.Common.{◌≡◌, ◌++◌, drop}
use Rattle.definitions.specs.Sketch.{sums_added}
use Rattle.walk_definitions.specs.Heard.{paired}
use Rattle.pair_run.proofs.additions.opened_sums.Given as goal

abbrev pub invariant-loop-k : goal.invariant-loop-k
invariant-loop-k l = l.opened.items ++ paired sums_added (drop l.k l.own) (drop l.k l.received) ≡ paired sums_added l.own l.received
