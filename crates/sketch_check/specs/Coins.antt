-- Coins of consecutive places.
use Rattle.std.specs.Prelude.{◌≡◌, ℕ, ◌+◌, ◌<◌, List, length, get_or}
use Rattle.definitions.specs.Sketch.{coin_at}

-- item j is the coin of the place that is j behind the first
abbrev pub AreCoins : List ℕ → ℕ → ℕ → List ℕ → Type 0
AreCoins key level place coins = (j : ℕ) → j < length coins → get_or coins j 0 ≡ coin_at key level (place + j)
