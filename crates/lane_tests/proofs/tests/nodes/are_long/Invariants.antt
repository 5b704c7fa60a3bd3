use Rattle.std.proofs.Common.{◌≡◌, ℕ, ◌<◌, [], length, slice_index_or}
use Rattle.lane_tests.proofs.tests.nodes.are_long.Given as goal

abbrev pub invariant-loop-k : goal.invariant-loop-k
invariant-loop-k l = record { long : (j : ℕ) → j < l.k → length (slice_index_or l.prefixes j []) ≡ l.level }
