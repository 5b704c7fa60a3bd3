-- Two names that hold two texts, or fronts of them.
use Rattle.std.specs.Prelude.{◌≡◌, ◌⊎◌, ℕ, List, Option, take}
use Rattle.std.specs.Option.{option_map}
use Rattle.shelf_io.specs.Files.{Files, HoldsFront, with_bytes}

-- the first name holds the first text and the second name the second, and all other names stay
abbrev pub with_both : List ℕ → List ℕ → List ℕ → List ℕ → Files → Files
with_both zero_name zero_text one_name one_text held = with_bytes one_name one_text (with_bytes zero_name zero_text held)

-- where a shelf tells, all is as before, or the first name holds a front of the first text and all other names stay, or
-- each of the two names holds a front of its text and all other names stay
abbrev pub HoldFronts : Option Files → Option Files → List ℕ → List ℕ → List ℕ → List ℕ → Type 0
HoldFronts before now zero_name zero_text one_name one_text =
    HoldsFront before now zero_name zero_text
    ⊎ ((m : ℕ) × (n : ℕ) × (now ≡ option_map (with_both zero_name (take m zero_text) one_name (take n one_text)) before))
