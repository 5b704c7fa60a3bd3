use Rattle.std.proofs.Common.{◌≡◌, length}
use Rattle.share_tests.proofs.tests.generation.equal_roots_add_up_to_the_point_and_pass.Given as goal

abbrev pub invariant-loop-place : goal.invariant-loop-place
invariant-loop-place g l = record {
  parent : length l.parent ≡ l.place;
  zero : length l.zero.levels ≡ 8;
  one : length l.one.levels ≡ 8;
}
