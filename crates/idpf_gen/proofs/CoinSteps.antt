-- The coins of one more level.
use Rattle.std.proofs.Common.{◌≡◌, ℕ, ◌+◌, List, [], ◌∷◌, ◌++◌, refl, add-one}
use Rattle.definitions.specs.Generation.{level_coins, coins_of_levels}

pub coins-none : (seed : List ℕ) → coins_of_levels seed 0 ≡ []
unfolding coins_of_levels
coins-none seed = refl

pub coins-more : (seed : List ℕ) (level : ℕ)
    → coins_of_levels seed (level + 1) ≡ coins_of_levels seed level ++ level_coins seed (level + 1) ∷ []
unfolding coins_of_levels
coins-more seed level = rw add-one refl

pub ruleset coin_steps = (coins-none, coins-more)
