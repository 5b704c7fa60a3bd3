-- The lines of malformed records.
use Rattle.std.specs.Prelude.{ℕ, List, ◌++◌, codes}
use Rattle.std.specs.List.{flat_map}
use Rattle.std.specs.Fmt.{decimal}
use Rattle.definitions.specs.declared.Side.{Side}
use Rattle.definitions.specs.Sides.{side_number}

-- the line of a malformed record of a side's file, by its number
abbrev pub refused_line : Side → ℕ → List ℕ
refused_line side number = codes "refused side " ++ (decimal (side_number side) ++ (codes " record " ++ (decimal number ++ codes "\n")))

-- a line for each number, in order
unfoldable pub refused_text : Side → List ℕ → List ℕ
refused_text side numbers = flat_map (refused_line side) numbers
