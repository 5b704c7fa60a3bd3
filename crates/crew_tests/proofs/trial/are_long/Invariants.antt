use Rattle.std.proofs.Common.{◌≡◌, ◌<◌, ℕ, Bool, List, length, slice_index_or}
use Rattle.crew_tests.proofs.trial.are_long.Given as goal

abbrev pub invariant-loop-candidate : goal.invariant-loop-candidate
invariant-loop-candidate l = (k : ℕ) (d : List Bool) → k < l.candidate-index → length (slice_index_or l.candidates k d) ≡ l.level
