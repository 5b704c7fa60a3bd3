-- What a shelf holds: the bytes under each name.
use Rattle.std.specs.Prelude.{◌≡◌, ◌⊎◌, ℕ, List, [], ◌++◌, Option, IfSome, IsSome, length, take}
use Rattle.std.specs.Option.{option_map, unwrap_or}
use Rattle.std.specs.Ordering.{nat_cmp}
use Rattle.std.specs.Cmp.Lexicographic.{slice_cmp}
use Rattle.std.specs.FinMap.{FinMap, get, insert}

-- a finite map from names, as their bytes, to bytes
abbrev pub Files : Type 0
Files = FinMap (slice_cmp nat_cmp) (List ℕ)

-- the number of bytes under a name, where it is there
abbrev pub length_under : Files → List ℕ → Option ℕ
length_under held name = option_map length (get held name)

-- the name holds the bytes, and all other names stay
abbrev pub with_bytes : List ℕ → List ℕ → Files → Files
with_bytes name bytes held = insert held name bytes

-- the bytes of the name are followed by more, and all other names stay
abbrev pub with_more : List ℕ → List ℕ → Files → Files
with_more name bytes held = insert held name (unwrap_or (get held name) [] ++ bytes)

-- where a shelf tells, the name is there
abbrev pub IsThere : Option Files → List ℕ → Type 0
IsThere told name = IfSome told (λ held. IsSome (get held name))

-- where a shelf tells and the name is there, a fact of the bytes under it
abbrev pub IfThere : Option Files → List ℕ → (List ℕ → Type 0) → Type 0
IfThere told name Fact = IfSome told (λ held. IfSome (get held name) Fact)

-- where a shelf tells, all is as before, or the name holds a front of the text and all other names stay
abbrev pub HoldsFront : Option Files → Option Files → List ℕ → List ℕ → Type 0
HoldsFront before now name text = (now ≡ before) ⊎ ((n : ℕ) × (now ≡ option_map (with_bytes name (take n text)) before))
