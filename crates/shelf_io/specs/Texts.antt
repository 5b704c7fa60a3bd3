-- What a sink took, where it tells.
use Rattle.std.specs.Prelude.{◌≡◌, ℕ, ◌≤◌, List, ◌++◌, Option, length, take}
use Rattle.std.specs.Option.{option_map}

-- the text was added at the end
abbrev pub Grew : Option (List ℕ) → Option (List ℕ) → List ℕ → Type 0
Grew before now text = now ≡ option_map (λ bytes. bytes ++ text) before

-- a front of the text was added at the end
abbrev pub GrewWithin : Option (List ℕ) → Option (List ℕ) → List ℕ → Type 0
GrewWithin before now text = (n : ℕ) × (n ≤ length text) × Grew before now (take n text)
