-- What holds of the two shares of a generated pair, by evaluation and by the check.
use Rattle.std.specs.Prelude.{ℕ, ◌%◌, ◌≤◌, length, Bool, if◌then◌else◌, List}
use Rattle.definitions.specs.declared.Side.TheVariants.{Zero, One}
use Rattle.definitions.specs.Field.{modulus}
use Rattle.definitions.specs.Prefixes.{is_prefix, AreCandidates}
use Rattle.definitions.specs.Evaluation.{Share, node}
use Rattle.definitions.specs.Generation.{ClientCoins}
use Rattle.definitions.specs.Check.{Passes}
use Rattle.generation_laws.specs.Points.{AddUpTo, coins_at}

-- at each prefix of 1 bit to the string's length the two sides' values add up to 1 and the data of the prefix's level
-- where the string begins with it, and to 0 and 0 elsewhere
abbrev pub AddUpToThePointOf : List Bool → ClientCoins → Share → Share → Type 0
AddUpToThePointOf string coins zero_share one_share = (q : List Bool) → 1 ≤ length q → length q ≤ length string
    → AddUpTo (node zero_share Zero q) (node one_share One q)
    (if is_prefix q string then 1 else 0) (if is_prefix q string then (coins_at coins (length q)).k % modulus else 0)

-- the report passes each of so many levels, over every list of different prefixes of the level, whatever the coins of
-- the check are
abbrev pub PassesEachLevel : ℕ → Share → Share → Type 0
PassesEachLevel levels zero_share one_share = (level : ℕ) → 1 ≤ level → level ≤ levels
    → (coin : ℕ → ℕ) (candidates : List (List Bool)) → AreCandidates level candidates
    → Passes coin zero_share one_share level candidates
