-- Which strings are heavy, by who holds them.
use Rattle.std.specs.Prelude.{◌≡◌, ◌⊎◌, ℕ, suc, ◌≤◌, Bool, true, List, [], ◌∷◌, ◌++◌, length}
use Rattle.std.specs.List.{All, Contains}
use Rattle.walk_definitions.specs.Ascending.{bits_before}
use Rattle.walk_definitions.specs.Walk.{Heavy}
use Rattle.walk_definitions.specs.Heavy.{heavy}

-- so many of the strings have the property
abbrev pub AreSoMany : (List Bool → Type 0) → List (List Bool) → ℕ → Type 0
AreSoMany P [] n = n ≡ 0
AreSoMany P (s ∷ ss) n = (P s × (m : ℕ) × (n ≡ suc m) × AreSoMany P ss m) ⊎ ((P s → ⊥) × AreSoMany P ss n)

-- a string begins with the prefix
abbrev pub BeginsWith : List Bool → List Bool → Type 0
BeginsWith prefix s = (rest : List Bool) × (prefix ++ rest ≡ s)

-- a string is this one
abbrev pub Is : List Bool → List Bool → Type 0
Is string s = s ≡ string

abbrev pub AllAfter : List Bool → List Heavy → Type 0
AllAfter prefix [] = Unit {0}
AllAfter prefix (h ∷ hs) = (bits_before prefix h.prefix ≡ true) × AllAfter prefix hs

-- each prefix comes before all behind it, so each stands once
abbrev pub PrefixesAscend : List Heavy → Type 0
PrefixesAscend [] = Unit {0}
PrefixesAscend (h ∷ hs) = AllAfter h.prefix hs × PrefixesAscend hs

-- of the prefixes of a length those that enough of the strings hold, where holding a prefix is told
pub record AreExactly (Holds : List Bool → List Bool → Type 0) (level : ℕ) (strings : List (List Bool)) (threshold : ℕ) (found : List Heavy) : Type 0 where
  pub ascend : PrefixesAscend found
  pub each : All (λ h. (length h.prefix ≡ level) × (threshold ≤ h.count) × AreSoMany (Holds h.prefix) strings h.count) found
  pub all : (prefix : List Bool) (number : ℕ) → length prefix ≡ level → AreSoMany (Holds prefix) strings number → threshold ≤ number
      → Contains found (record { prefix = prefix; count = number })

-- Of strings that are long enough the heavy prefixes are those with which at least so many begin.
abbrev pub HeavyPrefixesLaw : Type 0
HeavyPrefixesLaw = (level threshold : ℕ) (strings : List (List Bool)) → 1 ≤ threshold → All (λ s. level ≤ length s) strings
    → AreExactly BeginsWith level strings threshold (heavy level strings threshold)

-- Of strings of one length the heavy ones are those that at least so many members are.
abbrev pub HeavyStringsLaw : Type 0
HeavyStringsLaw = (bits threshold : ℕ) (strings : List (List Bool)) → 1 ≤ threshold → All (λ s. length s ≡ bits) strings
    → AreExactly Is bits strings threshold (heavy bits strings threshold)
