-- The id of a report: 16 bytes, a tag and a line's number.
use Rattle.std.specs.Prelude.{ℕ, List, ◌++◌, take, drop}
use Rattle.std.specs.Int.{w64, to_be_bytes, from_be_bytes}

-- the tag and the line, 8 bytes each, the highest byte first
abbrev pub report_id : ℕ → ℕ → List ℕ
report_id tag line = to_be_bytes w64 tag ++ to_be_bytes w64 line

-- the number of the first 8 bytes, and that of the others
abbrev pub id_high : List ℕ → ℕ
id_high id = from_be_bytes w64 (take 8 id)

abbrev pub id_low : List ℕ → ℕ
id_low id = from_be_bytes w64 (drop 8 id)
