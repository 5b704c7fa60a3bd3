-- The strings that many hold, found by filtering the list of all strings.
use Rattle.std.specs.Prelude.{ℕ, Bool, List, map, take, nat_le}
use Rattle.std.specs.List.{filter, count_by}
use Rattle.definitions.specs.Prefixes.{is_prefix}
use Rattle.walk_definitions.specs.Ascending.{bits_before, ascending}
use Rattle.walk_definitions.specs.Walk.{Heavy}

-- how many of the strings begin with the prefix
abbrev pub count : List (List Bool) → List Bool → ℕ
count strings prefix = count_by (is_prefix prefix) strings

-- each prefix with its count
abbrev pub counted : List (List Bool) → List (List Bool) → List Heavy
counted strings prefixes = map (λ q. record { prefix = q; count = count strings q }) prefixes

-- the prefixes of that length that at least so many strings begin with, ascending, each with its count
unfoldable pub heavy : ℕ → List (List Bool) → ℕ → List Heavy
heavy level strings threshold =
    counted strings (filter (λ q. nat_le threshold (count strings q)) (ascending bits_before (map (take level) strings)))
