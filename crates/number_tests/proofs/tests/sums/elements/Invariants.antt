use Rattle.std.proofs.Common.{◌≡◌, length}
use Rattle.number_tests.proofs.tests.sums.elements.Given as goal

abbrev pub invariant-loop : goal.invariant-loop
invariant-loop l = length l.made.items ≡ l.counter
