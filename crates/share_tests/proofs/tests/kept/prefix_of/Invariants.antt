use Rattle.std.proofs.Common.{◌≡◌, length}
use Rattle.share_tests.proofs.tests.kept.prefix_of.Given as goal

abbrev pub invariant-loop-place : goal.invariant-loop-place
invariant-loop-place l = record { long : length l.prefix ≡ l.place }
