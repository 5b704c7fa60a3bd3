-- The shares that are made of a list of strings, whose lines follow one another.
use Rattle.std.specs.Prelude.{ℕ, ◌+◌, Bool, List, [], ◌∷◌, length}
use Rattle.definitions.specs.ReportIds.{report_id}
use Rattle.definitions.specs.Evaluation.{Share}
use Rattle.definitions.specs.Generation.{client_coins, share0, share1}

-- the two sides' shares of the string of a line: their id is the tag and the line, their coins are those of the line
abbrev pub zero_share : List ℕ → ℕ → ℕ → List Bool → Share
zero_share master tag line string = share0 (report_id tag line) string (client_coins master line (length string))

abbrev pub one_share : List ℕ → ℕ → ℕ → List Bool → Share
one_share master tag line string = share1 (report_id tag line) string (client_coins master line (length string))

-- what is made of strings on consecutive lines, from the line of the first on
abbrev pub of_lines : {X : Type 0} → (ℕ → List Bool → X) → ℕ → List (List Bool) → List X
of_lines share_of line [] = []
of_lines share_of line (string ∷ strings) = share_of line string ∷ of_lines share_of (line + 1) strings

-- side 0's shares of strings, the first of which stands on this line; and side 1's
abbrev pub made_zero : List ℕ → ℕ → ℕ → List (List Bool) → List Share
made_zero master tag line strings = of_lines (zero_share master tag) line strings

abbrev pub made_one : List ℕ → ℕ → ℕ → List (List Bool) → List Share
made_one master tag line strings = of_lines (one_share master tag) line strings
