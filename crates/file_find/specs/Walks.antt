-- The strings that a search is over, and the walk that it asks for.
use Rattle.std.specs.Prelude.{ℕ, ◌*◌, Bool, List}
use Rattle.std.specs.FinMap.{get}
use Rattle.shelf_io.specs.Files.{Files}
use Rattle.walk_definitions.specs.Reports.{Report}
use Rattle.walk_definitions.specs.Walk.{Settings}
use Rattle.file_gen.specs.Answers.{Answer as Strings, strings_answer, lines_answer}
use Rattle.workload.specs.Workload.{workload_case}
use Rattle.pair_shares.specs.MadeReports.{made_reports}
use Rattle.file_find.specs.declared.rules.FindRules.{FindRules}

-- the strings of the file of a name, or why there are none
abbrev pub file_strings : List ℕ → FindRules → Files → Strings
file_strings name rules held = strings_answer rules.width (get held name)

-- the strings of the workload of so many reports, or that they are too many
abbrev pub workload_strings : ℕ → FindRules → Strings
workload_strings reports rules = lines_answer (workload_case rules.width reports)

-- the settings of the walk
abbrev pub settings_for : FindRules → Settings
settings_for rules = record { bits = 8 * rules.width; threshold = rules.threshold; cap = rules.cap; verify = rules.verify }

-- the reports that are made of the strings, in their order
abbrev pub reports_for : FindRules → List (List Bool) → List Report
reports_for rules strings = made_reports rules.master rules.tag strings
