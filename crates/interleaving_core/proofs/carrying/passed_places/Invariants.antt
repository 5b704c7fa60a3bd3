use Rattle.std.proofs.Common.{◌≡◌, suc, take}
use Rattle.core_definitions.specs.System.{passed_by}
use Rattle.interleaving_core.proofs.carrying.passed_places.Given as goal

abbrev pub invariant-loop-k : goal.invariant-loop-k
invariant-loop-k l = l.still.items ≡ passed_by l.stage.batch (suc l.stage.past) (take l.k l.stage.live) (take l.k l.zero) (take l.k l.one)
