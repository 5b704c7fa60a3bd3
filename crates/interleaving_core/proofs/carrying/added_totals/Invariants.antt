use Rattle.std.proofs.Common.{◌≡◌, take}
use Rattle.definitions.specs.Field.{add}
use Rattle.walk_definitions.specs.Heard.{paired}
use Rattle.interleaving_core.proofs.carrying.added_totals.Given as goal

abbrev pub invariant-loop-k : goal.invariant-loop-k
invariant-loop-k l = l.totals.items ≡ paired add (take l.k l.zero) (take l.k l.one)
