-- What it means that there is exactly one.
use Rattle.std.specs.Prelude.{◌≡◌}

-- F holds of one value, and of no other
abbrev pub ExactlyOne : {A : Type 0} → (A → Type 0) → Type 0
ExactlyOne {A} F = (a : A) × F a × ((b : A) → F b → b ≡ a)
