-- A gate's rule, for the tiles of one side.
use Rattle.std.specs.Prelude.{ℕ, Bool, true, false, Option, Some, None}
use Rattle.definitions.specs.declared.Side.{Side}
use Rattle.shelf_io.specs.Gates.{Rule}

abbrev pub tells_of : Option Rule → Bool
tells_of None = false
tells_of (Some rule) = true

abbrev pub rule_of : Option Rule → Side → ℕ → Bool
rule_of None side tile = false
rule_of (Some rule) side tile = rule side tile
