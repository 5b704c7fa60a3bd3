-- Prefixes of strings, as lists of bits.
use Rattle.std.specs.Prelude.{◌≡◌, ◌≢◌, ℕ, Bool, true, false, not, if◌then◌else◌, List, [], ◌∷◌, length}

-- exclusive or
abbrev pub xor : Bool → Bool → Bool
xor true b = not b
xor false b = b

-- whether the second list begins with the first
abbrev pub is_prefix : List Bool → List Bool → Bool
is_prefix [] bits = true
is_prefix (b ∷ q) [] = false
is_prefix (b ∷ q) (a ∷ bits) = if xor b a then false else is_prefix q bits

-- the prefix is none of these
abbrev pub IsNotIn : List (List Bool) → List Bool → Type 0
IsNotIn [] q = Unit {0}
IsNotIn (r ∷ rs) q = (r ≢ q) × IsNotIn rs q

-- prefixes of one length, no two of them equal
abbrev pub AreCandidates : ℕ → List (List Bool) → Type 0
AreCandidates level [] = Unit {0}
AreCandidates level (q ∷ qs) = (length q ≡ level) × IsNotIn qs q × AreCandidates level qs
