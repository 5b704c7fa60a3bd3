-- The ranges of the ways in which a walk's work is divided.
use Rattle.std.specs.Prelude.{ℕ, ◌≤◌}
use Rattle.walk_tests.specs.declared.trial.Way.{Way}

pub record IsSound (way : Way) : Type 0 where
  pub workers : (1 ≤ way.workers) × (way.workers ≤ 64)
  pub uploaders : (1 ≤ way.uploaders) × (way.uploaders ≤ 64)
  pub cache : (1 ≤ way.cache) × (way.cache ≤ 65536)
  pub tiles : (1 ≤ way.by_reports) × (1 ≤ way.by_candidates)
