-- The reports that are made of a list of strings.
use Rattle.std.specs.Prelude.{ℕ, ◌+◌, Bool, List, [], ◌∷◌}
use Rattle.definitions.specs.ReportIds.{report_id}
use Rattle.walk_definitions.specs.Reports.{Report}
use Rattle.idpf_gen.specs.Made.{zero_share, one_share}

-- the report of the string of a line: the tag and the line, and both sides' shares
abbrev pub made_report : List ℕ → ℕ → ℕ → List Bool → Report
made_report master tag line string = record {
  id = report_id tag line;
  held0 = zero_share master tag line string;
  held1 = one_share master tag line string;
}

-- those of strings on consecutive lines, from the line of the first on
abbrev pub reports_from : List ℕ → ℕ → ℕ → List (List Bool) → List Report
reports_from master tag line [] = []
reports_from master tag line (string ∷ strings) = made_report master tag line string ∷ reports_from master tag (line + 1) strings

-- those of strings whose lines are counted from 0
unfoldable pub made_reports : List ℕ → ℕ → List (List Bool) → List Report
made_reports master tag strings = reports_from master tag 0 strings
