use Rattle.std.proofs.Common.{◌≡◌, ◌<◌, ℕ, length, slice_index_or}
use Rattle.walk_definitions.specs.Reports.{Report}
use Rattle.hostile_tests.proofs.tests.share_bytes.have_levels.Given as goal

abbrev pub invariant-loop-report : goal.invariant-loop-report
invariant-loop-report l = (k : ℕ) (d : Report) → k < l.report-index
    → (length (slice_index_or l.reports k d).held0.levels ≡ 16) × (length (slice_index_or l.reports k d).held1.levels ≡ 16)
