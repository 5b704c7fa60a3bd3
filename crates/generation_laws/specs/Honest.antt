-- A generated report passes the check.
use Rattle.std.specs.Prelude.{ℕ, ◌≤◌, length, Bool, List}
use Rattle.definitions.specs.Prefixes.{AreCandidates}
use Rattle.definitions.specs.Generation.{ClientCoins, share0, share1}
use Rattle.definitions.specs.Check.{Passes}

-- A generated pair passes every level, over every list of different prefixes of the level's length, whatever the coins
-- of the check are, so for every verify seed.
abbrev pub HonestLaw : Type 0
HonestLaw = (id : List ℕ) (string : List Bool) (coins : ClientCoins) (level : ℕ)
    → 1 ≤ level → level ≤ length string → length string ≤ length coins.levels
    → (coin : ℕ → ℕ) (candidates : List (List Bool)) → AreCandidates level candidates
    → Passes coin (share0 id string coins) (share1 id string coins) level candidates
