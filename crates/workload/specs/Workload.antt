-- The strings of so many reports: letters, each half as often as the one before.
use Rattle.std.specs.Prelude.{ℕ, ◌+◌, Bool, List, [], ◌∷◌, map, nat_lt, min}
use Rattle.std.specs.Bool.{if◌then◌else◌}
use Rattle.std.specs.Int.{w32, trailing_zeros}
use Rattle.std.specs.List.{range_with_len}
use Rattle.text_strings.specs.Lines.{LinesCase, too_many, strings, string_of, share_bytes, most_share_bytes}

-- the letter of a report, counted from 0: as many behind `a` as its number, counted from 1, has zero bits at its low end, at most 15
abbrev pub letter : ℕ → ℕ
letter line = 97 + min (trailing_zeros w32 (line + 1)) 15

-- the letter once at width 1, and else twice
abbrev pub letters : ℕ → ℕ → List ℕ
letters width line = if nat_lt width 2 then letter line ∷ [] else letter line ∷ letter line ∷ []

-- the string of a report: its letters, followed by zero bytes
abbrev pub workload_string : ℕ → ℕ → List Bool
workload_string width line = string_of width (letters width line)

-- those of so many reports, in order
unfoldable pub workload_strings : ℕ → ℕ → List (List Bool)
workload_strings width reports = map (workload_string width) (range_with_len 0 reports)

-- too many, by the rule of the lines of a strings file; or the strings
abbrev pub workload_case : ℕ → ℕ → LinesCase
workload_case width reports =
    if nat_lt most_share_bytes (share_bytes width reports) then too_many reports else strings (workload_strings width reports)
