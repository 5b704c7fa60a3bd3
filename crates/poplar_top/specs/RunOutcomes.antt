-- What `run` comes to: the files first, then the walk, as it was heard or as it is by its definition.
use Rattle.std.specs.Prelude.{Bool, true, false, List, ℕ, Option, None, Some, Result, Ok, Err}
use Rattle.definitions.specs.declared.Side.{Side}
use Rattle.shelf_io.specs.Files.{Files}
use Rattle.share_format.specs.declared.file_error.FileError.{FileError}
use Rattle.share_format.specs.declared.file_error.FileError.TheVariants as files
use Rattle.pair_run.specs.declared.answers.PairError.{PairError}
use Rattle.pair_run.specs.declared.answers.PairError.TheVariants as walks
use Rattle.file_run.specs.declared.errors.RunError.{RunError}
use Rattle.file_run.specs.declared.errors.RunError.TheVariants as runs
use Rattle.file_run.specs.declared.rules.RunRules.{RunRules}
use Rattle.file_run.specs.Beginnings.{Both, begun}
use Rattle.file_run.specs.Answers.{Ending, Answer, run_answer}
use Rattle.command_words.specs.Settings.{RunSettings, run_words}
use Rattle.poplar_top.specs.declared.refusal.Refusal.TheVariants.{Missing, TooLong, Header, Cut, Widths, Walk}
use Rattle.poplar_top.specs.declared.walk_refusal.WalkRefusal.TheVariants as refused
use Rattle.poplar_top.specs.Outcomes.{Outcome}
use Rattle.poplar_top.specs.Outcomes.Outcome.{usage, refusal, texts, untold_run, unheard}

-- ---- errors as refusals; a failed shelf or link and want of memory are no outcome of what is told

abbrev pub file_refused : Side → FileError → Outcome
file_refused side files.Missing = refusal (Missing side)
file_refused side (files.TooLong length) = refusal (TooLong side)
file_refused side (files.Header at) = refusal (Header side at)
file_refused side (files.Cut at) = refusal (Cut side at)
file_refused side files.Shelf = untold_run
file_refused side files.Memory = untold_run

abbrev pub walk_refused : PairError → Outcome
walk_refused (walks.Cap level wanted) = refusal (Walk (refused.Cap level wanted))
walk_refused walks.Link = untold_run
walk_refused (walks.PeerMessage level kind at) = refusal (Walk (refused.PeerMessage level kind at))
walk_refused (walks.Views level kind place left right) = refusal (Walk (refused.Views level kind place left right))
walk_refused walks.Memory = untold_run

abbrev pub run_refused : RunError → Outcome
run_refused (runs.File side e) = file_refused side e
run_refused (runs.Widths zero one) = refusal (Widths zero one)
run_refused (runs.Walk e) = walk_refused e
run_refused runs.Memory = untold_run

-- ---- the outcome

abbrev pub answered : Answer → Outcome
answered (Ok written) = texts written.0 written.1
answered (Err e) = run_refused e

-- files that go together come to a walk, of which nothing is said where the link does not tell
abbrev pub unheard_answer : Result Both RunError → Outcome
unheard_answer (Ok both) = unheard
unheard_answer (Err e) = run_refused e

-- what the walk is told
abbrev pub rules_asked : RunSettings → RunRules
rules_asked settings = record {
  threshold = settings.threshold;
  workers = settings.options.workers;
  uploaders = settings.options.uploaders;
  cap = settings.options.cap;
  cache = settings.options.cache;
  verify = settings.options.verify;
  drill = settings.options.drill;
}

abbrev pub files_asked : RunSettings → Files → Result Both RunError
files_asked settings held = begun settings.zero settings.one held

-- `run` of told files, where the walk ends this way; with none, the link does not tell how
abbrev pub run_files_outcome : Option Ending → RunSettings → Result Both RunError → Outcome
run_files_outcome None settings found = unheard_answer found
run_files_outcome (Some ending) settings found = answered (run_answer ending (rules_asked settings) found)

abbrev pub run_told : Option Ending → RunSettings → Option Files → Outcome
run_told ending settings None = untold_run
run_told ending settings (Some held) = run_files_outcome ending settings (files_asked settings held)

abbrev pub run_settled : Option Ending → Option RunSettings → Option Files → Outcome
run_settled ending None files = usage
run_settled ending (Some settings) files = run_told ending settings files

abbrev pub run_outcome : Option Ending → List (List ℕ) → Option Files → Outcome
run_outcome ending words files = run_settled ending (run_words words) files

-- ---- whether there is a walk

abbrev pub go_together : Result Both RunError → Bool
go_together (Ok both) = true
go_together (Err e) = false

-- whether the settings and the told files come to a walk; where the shelf does not tell, they may
abbrev pub run_walks : Option RunSettings → Option Files → Bool
run_walks None files = false
run_walks (Some settings) None = true
run_walks (Some settings) (Some held) = go_together (files_asked settings held)
