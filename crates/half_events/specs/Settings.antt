-- Settings that a run may have.
use Rattle.std.specs.Prelude.{ℕ, ◌≤◌}
use Rattle.core_definitions.specs.Phase.{CoreSettings}

pub record AreUsable (most_bits : ℕ) (core : CoreSettings) : Type 0 where
  pub some_bits : 8 ≤ core.walk.bits
  pub few_bits : core.walk.bits ≤ most_bits
  pub some_cap : 2 ≤ core.walk.cap
  pub small_cap : core.walk.cap ≤ 65536
  pub some_threshold : 1 ≤ core.walk.threshold
  pub some_reports : 1 ≤ core.by_reports
  pub some_candidates : 1 ≤ core.by_candidates
  pub some_uploaders : 1 ≤ core.uploaders
  pub some_workers : 1 ≤ core.workers
