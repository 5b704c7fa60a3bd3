-- What a gate says.
use Rattle.std.specs.Prelude.{ℕ, Bool, true, false}
use Rattle.definitions.specs.declared.Side.{Side}
use Rattle.shelf_io.specs.declared.gate.Say.{Say}
use Rattle.shelf_io.specs.declared.gate.Say.TheVariants.{Go, Abandon}

-- which tiles of which side a gate leaves out
abbrev pub Rule : Type 0
Rule = Side → ℕ → Bool

abbrev pub is_abandon : Say → Bool
is_abandon Go = false
is_abandon Abandon = true

-- the rule that never holds
abbrev pub never : Rule
never side tile = false
