use Rattle.std.proofs.Common.{◌≡◌, length}
use Rattle.share_tests.proofs.tests.evaluation.prefix_of.Given as goal

abbrev pub invariant-loop-bit : goal.invariant-loop-bit
invariant-loop-bit l = record { bits : length l.prefix ≡ l.bit-index }
