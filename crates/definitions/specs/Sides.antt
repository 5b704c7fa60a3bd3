-- The two servers.
use Rattle.std.specs.Prelude.{ℕ, Bool, true, false}
use Rattle.definitions.specs.declared.Side.{Side}
use Rattle.definitions.specs.declared.Side.TheVariants.{Zero, One}

-- a side's number, as files and messages have it
abbrev pub side_number : Side → ℕ
side_number Zero = 0
side_number One = 1

abbrev pub other_side : Side → Side
other_side Zero = One
other_side One = Zero

-- whether the two are one side
abbrev pub is_side : Side → Side → Bool
is_side Zero Zero = true
is_side Zero One = false
is_side One Zero = false
is_side One One = true
