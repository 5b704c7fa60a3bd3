-- What contracts see of a collection, and what an addition makes of a side's list.
use Rattle.std.specs.Prelude.{ℕ, List, ◌++◌}
use Rattle.std.specs.List.Sorted.{IsPermutation}
use Rattle.definitions.specs.declared.Side.{Side}
use Rattle.definitions.specs.declared.Side.TheVariants.{Zero, One}
use Rattle.definitions.specs.Evaluation.{Share}

-- the shares of each side
pub record CollectSeen : Type 0 where
  pub zero : List Share
  pub one : List Share

-- one side, how many uploaders it has, and its shares
pub record SideSeen : Type 0 where
  pub side : Side
  pub uploaders : ℕ
  pub shares : List Share

abbrev pub shares_on : Side → CollectSeen → List Share
shares_on Zero c = c.zero
shares_on One c = c.one

abbrev pub opposite : Side → Side
opposite Zero = One
opposite One = Zero

-- some of the given shares were added, each at most once, and the rest was not
pub record AddsSome (old given new : List Share) : Type 0 where
  pub added : List Share
  pub rest : List Share
  pub once : IsPermutation given (added ++ rest)
  pub all : IsPermutation (old ++ added) new
