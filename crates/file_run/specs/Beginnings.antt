-- What the two share files of a run come to, and the walk that they ask for.
use Rattle.std.specs.Prelude.{ℕ, ◌*◌, List, ◌++◌, Result, Ok, Err, nat_eq}
use Rattle.std.specs.Bool.{if◌then◌else◌}
use Rattle.std.specs.FinMap.{get}
use Rattle.definitions.specs.declared.Side.TheVariants.{Zero, One}
use Rattle.shelf_io.specs.Files.{Files}
use Rattle.share_format.specs.declared.file_error.FileError.{FileError}
use Rattle.share_lists.specs.FileLists.{ShareLists, file_lists}
use Rattle.walk_definitions.specs.Reports.{Report, batch}
use Rattle.walk_definitions.specs.Walk.{Settings}
use Rattle.answer_text.specs.RefusedText.{refused_text}
use Rattle.file_run.specs.declared.rules.RunRules.{RunRules}
use Rattle.file_run.specs.declared.errors.RunError.{RunError}
use Rattle.file_run.specs.declared.errors.RunError.TheVariants.{File, Widths}

-- the lists of side 0's file and of side 1's
abbrev pub Both : Type 0
Both = ShareLists × ShareLists

-- what two files come to: side 0's is judged first, and two whole files go together where their widths are equal
abbrev pub both_lists : Result ShareLists FileError → Result ShareLists FileError → Result Both RunError
both_lists (Err e) one = Err (File Zero e)
both_lists (Ok zero) (Err e) = Err (File One e)
both_lists (Ok zero) (Ok one) = if nat_eq zero.width one.width then Ok (zero, one) else Err (Widths zero.width one.width)

-- what the files of two names come to
unfoldable pub begun : List ℕ → List ℕ → Files → Result Both RunError
begun zero one held = both_lists (file_lists Zero (get held zero)) (file_lists One (get held one))

-- ---- the walk that they ask for

-- the settings of the walk over strings of a width
abbrev pub settings_for : RunRules → ℕ → Settings
settings_for rules width = record { bits = 8 * width; threshold = rules.threshold; cap = rules.cap; verify = rules.verify }

-- the reports that both sides hold without clash
abbrev pub batch_for : Both → List Report
batch_for both = batch both.0.shares both.1.shares

-- the lines of the malformed records, side 0's first
abbrev pub refused_for : Both → List ℕ
refused_for both = refused_text Zero both.0.malformed ++ refused_text One both.1.malformed
