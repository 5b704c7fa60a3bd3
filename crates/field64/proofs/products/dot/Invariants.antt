use Rattle.std.proofs.Common.{◌≡◌, take}
use Rattle.definitions.specs.Field.{dot}
use Rattle.field64.proofs.products.dot.Given as goal

abbrev pub invariant-loop-k : goal.invariant-loop-k
invariant-loop-k l = record { sum : l.sum ≡ dot (take l.k l.left) (take l.k l.right) }
