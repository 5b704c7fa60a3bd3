use Rattle.std.proofs.Common.{◌≡◌, length}
use Rattle.poplar_tests.proofs.tests.pairs.adds_up.Given as goal

abbrev pub invariant-loop-place : goal.invariant-loop-place
invariant-loop-place l = length l.parent ≡ l.place
