-- The ranges of what a run is told.
use Rattle.std.specs.Prelude.{◌<◌, ◌≤◌}
use Rattle.definitions.specs.Field.{modulus}
use Rattle.file_run.specs.declared.rules.RunRules.{RunRules}

pub record IsInRange (rules : RunRules) : Type 0 where
  pub some_threshold : 1 ≤ rules.threshold
  pub small_threshold : rules.threshold < modulus
  pub some_workers : 1 ≤ rules.workers
  pub few_workers : rules.workers ≤ 64
  pub some_uploaders : 1 ≤ rules.uploaders
  pub few_uploaders : rules.uploaders ≤ 64
  pub some_cap : 2 ≤ rules.cap
  pub small_cap : rules.cap ≤ 65536
  pub some_cache : 1 ≤ rules.cache
  pub small_cache : rules.cache ≤ 65536
