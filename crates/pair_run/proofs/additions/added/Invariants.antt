use Rattle.std.proofs.Common.{◌≡◌, ◌++◌, drop}
use Rattle.definitions.specs.Field.{add}
use Rattle.walk_definitions.specs.Heard.{paired}
use Rattle.pair_run.proofs.additions.added.Given as goal

abbrev pub invariant-loop-k : goal.invariant-loop-k
invariant-loop-k l = l.numbers.items ++ paired add (drop l.k l.own) (drop l.k l.received) ≡ paired add l.own l.received
