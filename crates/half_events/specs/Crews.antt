-- The workers of a side alone.
use Rattle.std.specs.Prelude.{ℕ, List, []}
use Rattle.core_definitions.specs.declared.hand.Hand.{Hand}
use Rattle.core_definitions.specs.Phase.{Half, of_totals}

-- a side of which only the counter and the hands matter
abbrev pub crew : ℕ → List Hand → Half
crew counter hands = record { counter = counter; hands = hands; log = []; cache = []; values = of_totals [] }
