-- Which tiles a drill leaves out.
use Rattle.std.specs.Prelude.{ℕ, ◌+◌, ◌%◌, ◌==◌, not, Bool, ◌&&◌, ◌||◌}
use Rattle.shelf_io.specs.Gates.{Rule}

-- the tile's number, counted from 1, is a multiple of n
abbrev pub is_drilled : ℕ → ℕ → Bool
is_drilled n tile = not (n == 0) && ((tile + 1) % n == 0)

-- the rule that leaves out these tiles, and those of another rule
abbrev pub drilled : ℕ → Rule → Rule
drilled n rule side tile = is_drilled n tile || rule side tile
