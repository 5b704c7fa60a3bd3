use Rattle.std.proofs.Common.{◌<◌, ℕ, slice_index_or}
use Rattle.crew_tests.proofs.trial.are_below.Given as goal

abbrev pub invariant-loop-place : goal.invariant-loop-place
invariant-loop-place l = (k d : ℕ) → k < l.place-index → slice_index_or l.live k d < l.count
