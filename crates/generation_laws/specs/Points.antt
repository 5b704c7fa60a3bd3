-- What a generated pair is for: its values add up to a point function of the string.
use Rattle.std.specs.Prelude.{◌≡◌, ℕ, ◌-◌, ◌%◌, ◌≤◌, length, Bool, if◌then◌else◌, List, slice_index_or}
use Rattle.definitions.specs.declared.Side.TheVariants.{Zero, One}
use Rattle.definitions.specs.Field.{modulus, add}
use Rattle.definitions.specs.Prefixes.{is_prefix}
use Rattle.definitions.specs.Evaluation.{Node, node}
use Rattle.definitions.specs.Generation.{LevelCoins, ClientCoins, share0, share1}

-- the coins of a level, counted from 1
abbrev pub no_coins : LevelCoins
no_coins = record { k = 0; a0 = 0; b0 = 0 }

abbrev pub coins_at : ClientCoins → ℕ → LevelCoins
coins_at coins level = slice_index_or coins.levels (level - 1) no_coins

-- the values of two nodes add up to these elements
pub record AddUpTo (n0 n1 : Node) (x y : ℕ) : Type 0 where
  pub d : add n0.d n1.d ≡ x
  pub e : add n0.e n1.e ≡ y

-- the two sides' values at a prefix add up to 1 and the data k of its level where the string begins with it, and to 0
-- and 0 elsewhere
abbrev pub AddsUpToThePoint : List ℕ → List Bool → ClientCoins → List Bool → Type 0
AddsUpToThePoint id string coins q =
    AddUpTo (node (share0 id string coins) Zero q) (node (share1 id string coins) One q)
    (if is_prefix q string then 1 else 0) (if is_prefix q string then (coins_at coins (length q)).k % modulus else 0)

-- The law of point functions: at every prefix that is not empty and not longer than the string, whatever the seeds and
-- coins, equal roots included.
abbrev pub PointLaw : Type 0
PointLaw = (id : List ℕ) (string : List Bool) (coins : ClientCoins) (q : List Bool)
    → 1 ≤ length q → length q ≤ length string → length string ≤ length coins.levels → AddsUpToThePoint id string coins q
