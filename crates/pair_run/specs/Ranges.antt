-- The ranges of a walk's settings.
use Rattle.std.specs.Prelude.{◌≡◌, ℕ, ◌<◌, ◌≤◌, List, length, map}
use Rattle.std.specs.List.{All}
use Rattle.definitions.specs.declared.Side.{Side}
use Rattle.definitions.specs.Field.{modulus}
use Rattle.walk_definitions.specs.Reports.{Report, held}
use Rattle.pair_run.specs.declared.settings.WalkSettings.{WalkSettings}

pub record AreInRange (most_bits : ℕ) (settings : WalkSettings) : Type 0 where
  pub some_bits : 8 ≤ settings.bits
  pub few_bits : settings.bits ≤ most_bits
  pub some_threshold : 1 ≤ settings.threshold
  pub small_threshold : settings.threshold < modulus
  pub some_cap : 2 ≤ settings.cap
  pub small_cap : settings.cap ≤ 65536
  pub some_workers : 1 ≤ settings.workers
  pub few_workers : settings.workers ≤ 64
  pub some_cache : 1 ≤ settings.cache
  pub small_cache : settings.cache ≤ 65536
  pub some_reports : 1 ≤ settings.by_reports
  pub some_candidates : 1 ≤ settings.by_candidates

-- both sides' shares have just so many levels
abbrev pub HaveBits : ℕ → List Report → Type 0
HaveBits bits batch = (side : Side) → All (λ s. length s.levels ≡ bits) (map (λ r. held r side) batch)
