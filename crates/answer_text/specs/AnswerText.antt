-- The texts of a walk's end: the answer, line by line, and the line that tells how the walk ended.
use Rattle.std.specs.Prelude.{ℕ, List, ◌++◌, codes}
use Rattle.std.specs.List.{flat_map}
use Rattle.std.specs.Fmt.{decimal}
use Rattle.prefix_bits.specs.Bits.{bytes_of_bits}
use Rattle.walk_definitions.specs.Walk.{Heavy}
use Rattle.text_strings.specs.Shown.{shown}

-- the line of a heavy string: its count, a tab, and its bytes as shown
abbrev pub heavy_line : Heavy → List ℕ
heavy_line heavy = decimal heavy.count ++ (codes "\t" ++ (shown (bytes_of_bits heavy.prefix) ++ codes "\n"))

-- a line for each, in order
unfoldable pub answer_text : List Heavy → List ℕ
answer_text heavy = flat_map heavy_line heavy

-- how a walk ended: the reports of the batch, those that passed the last level walked, and the levels walked
abbrev pub sealed_line : ℕ → ℕ → ℕ → List ℕ
sealed_line sealed passed levels =
    codes "sealed " ++ (decimal sealed ++ (codes " passed " ++ (decimal passed ++ (codes " levels " ++ (decimal levels ++ codes "\n")))))
