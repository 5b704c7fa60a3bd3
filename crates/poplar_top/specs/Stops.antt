-- Why there is no text.
use Rattle.std.specs.Prelude.{◌≡◌, ◌⊎◌, ℕ, List, codes}
use Rattle.shelf_io.specs.declared.refused.Refused.{Refused}
use Rattle.shelf_io.specs.declared.refused.Refused.TheVariants.{Failed, Memory as NoMemory}
use Rattle.poplar_top.specs.declared.stop.Stop.{Stop}
use Rattle.poplar_top.specs.declared.stop.Stop.TheVariants as stops
use Rattle.definitions.specs.declared.Side.{Side}
use Rattle.command_words.specs.declared.words_error.WordsError.{WordsError}
use Rattle.command_words.specs.declared.words_error.WordsError.TheVariants.{Usage, Memory}
use Rattle.share_format.specs.declared.file_error.FileError.{FileError}
use Rattle.share_format.specs.declared.file_error.FileError.TheVariants as errors
use Rattle.poplar_top.specs.declared.refusal.Refusal.TheVariants.{Missing, TooLong, Header, Cut, LongPrefix, NoStrings, StringsLong, TooMany, LineLong, ZeroByte}
use Rattle.file_eval.specs.declared.errors.EvalError.{EvalError}
use Rattle.file_eval.specs.declared.errors.EvalError.TheVariants as evals
use Rattle.file_gen.specs.declared.errors.GenError.{GenError}
use Rattle.file_gen.specs.declared.errors.GenError.TheVariants as gens
use Rattle.text_strings.specs.declared.lines_error.LinesError.TheVariants as lines
use Rattle.poplar_top.specs.Refusals.{status_of, line_of}
use Rattle.poplar_top.specs.Outcomes.{Outcome}
use Rattle.poplar_top.specs.Outcomes.Outcome.{refusal}

-- a refusal is the outcome's
abbrev pub StopFits : Outcome → Stop → Type 0
StopFits o (stops.Refusal r) = o ≡ refusal r
StopFits o stops.Shelf = Unit {0}
StopFits o stops.Link = Unit {0}
StopFits o stops.Memory = Unit {0}

-- the status and the line of a reason
abbrev pub stop_status : Stop → ℕ
stop_status (stops.Refusal r) = status_of r
stop_status stops.Shelf = 6
stop_status stops.Link = 7
stop_status stops.Memory = 8

abbrev pub stop_line : Stop → List ℕ
stop_line (stops.Refusal r) = line_of r
stop_line stops.Shelf = codes "shelf fault\n"
stop_line stops.Link = codes "link fault\n"
stop_line stops.Memory = codes "want of memory\n"

-- the status of a refused write
abbrev pub sink_status : Refused → ℕ
sink_status Failed = 10
sink_status NoMemory = 8

-- the status of words that give no settings
abbrev pub words_status : WordsError → ℕ
words_status Usage = 2
words_status Memory = 8

-- why a file of a side that is not read whole gives no text
abbrev pub file_stop : Side → FileError → Stop
file_stop side errors.Missing = stops.Refusal (Missing side)
file_stop side (errors.TooLong length) = stops.Refusal (TooLong side)
file_stop side (errors.Header at) = stops.Refusal (Header side at)
file_stop side (errors.Cut at) = stops.Refusal (Cut side at)
file_stop side errors.Shelf = stops.Shelf
file_stop side errors.Memory = stops.Memory

-- why a file has no values at a prefix
abbrev pub eval_stop : Side → EvalError → Stop
eval_stop side (evals.File e) = file_stop side e
eval_stop side (evals.LongPrefix bits width) = stops.Refusal (LongPrefix bits width)
eval_stop side evals.Memory = stops.Memory

-- why the files of `gen` are not made
abbrev pub gen_stop : GenError → Stop
gen_stop gens.Missing = stops.Refusal NoStrings
gen_stop gens.TooLong = stops.Refusal StringsLong
gen_stop (gens.Lines (lines.TooMany count)) = stops.Refusal (TooMany count)
gen_stop (gens.Lines (lines.LineLong line)) = stops.Refusal (LineLong line)
gen_stop (gens.Lines (lines.ZeroByte line)) = stops.Refusal (ZeroByte line)
gen_stop (gens.Lines lines.Memory) = stops.Memory
gen_stop gens.Shelf = stops.Shelf
gen_stop gens.Memory = stops.Memory

-- a reason that is a refusal has one of the statuses that `eval` has, or one that `gen` has; the link is asked by neither
abbrev pub IsEvalStop : Stop → Type 0
IsEvalStop (stops.Refusal r) = (status_of r ≡ 3) ⊎ (status_of r ≡ 4)
IsEvalStop stops.Shelf = Unit {0}
IsEvalStop stops.Link = ⊥
IsEvalStop stops.Memory = Unit {0}

abbrev pub IsGenStop : Stop → Type 0
IsGenStop (stops.Refusal r) = status_of r ≡ 11
IsGenStop stops.Shelf = Unit {0}
IsGenStop stops.Link = ⊥
IsGenStop stops.Memory = Unit {0}
