-- The ranges of the settings' values.
use Rattle.std.specs.Prelude.{◌≤◌, ◌<◌, ℕ}
use Rattle.definitions.specs.Field.{modulus}
use Rattle.command_words.specs.declared.walk_options.WalkOptions.{WalkOptions}

abbrev pub IsWidth : ℕ → Type 0
IsWidth width = (1 ≤ width) × (width ≤ 32)

abbrev pub IsThreshold : ℕ → Type 0
IsThreshold threshold = (1 ≤ threshold) × (threshold < modulus)

-- between one and as many
abbrev pub IsUpTo : (most : ℕ) → ℕ → Type 0
IsUpTo most n = (1 ≤ n) × (n ≤ most)

abbrev pub IsCap : ℕ → Type 0
IsCap cap = (2 ≤ cap) × (cap ≤ 65536)

pub record AreInRange (options : WalkOptions) : Type 0 where
  pub workers : IsUpTo 64 options.workers
  pub uploaders : IsUpTo 64 options.uploaders
  pub cap : IsCap options.cap
  pub cache : IsUpTo 65536 options.cache
