-- What a batch has for a level.
use Rattle.std.specs.Prelude.{ℕ, ◌≤◌, Bool, List, length, map}
use Rattle.std.specs.List.{All}
use Rattle.definitions.specs.declared.Side.{Side}
use Rattle.walk_definitions.specs.Reports.{Report, held}
use Rattle.walk_definitions.specs.Walk.{Stage}

-- both sides' shares have so many levels, or more
abbrev pub HaveLevels : ℕ → List Report → Type 0
HaveLevels level batch = (side : Side) → All (λ s. level ≤ length s.levels) (map (λ r. held r side) batch)

-- live reports and the candidates of the next level
abbrev pub stage_of : List Report → List (List Bool) → Stage
stage_of live candidates = record { live = live; candidates = candidates }
