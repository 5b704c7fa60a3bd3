-- Files that are kept as a list of names with bytes.
use Rattle.std.specs.Prelude.{◌≡◌, ℕ, zero, suc, List, [], ◌∷◌, map}
use Rattle.std.specs.String.{string_bytes}
use Rattle.std.specs.FinMap.{from_entries}
use Rattle.shelf_io.specs.Files.{Files}
use Rattle.shelf_io.specs.declared.entries.Entry.{Entry}

abbrev pub pair_of : Entry → List ℕ × List ℕ
pair_of entry = (string_bytes entry.name, entry.bytes.items)

abbrev pub pairs_of : List Entry → List (List ℕ × List ℕ)
pairs_of entries = map pair_of entries

-- the first entry of a name has its bytes
abbrev pub files_of : List Entry → Files
files_of entries = from_entries (pairs_of entries)

-- the first entry with a name stands at a place
abbrev pub IsPlace : List Entry → List ℕ → ℕ → Type 0
IsPlace [] name i = ⊥
IsPlace (entry ∷ entries) name zero = string_bytes entry.name ≡ name
IsPlace (entry ∷ entries) name (suc i) = (string_bytes entry.name ≡ name → ⊥) × IsPlace entries name i
