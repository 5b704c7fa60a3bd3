-- What the words and the told files come to, with the causes in their order.
use Rattle.std.specs.Prelude.{ℕ, List, Option, None, Some, Ok, Err}
use Rattle.std.specs.FinMap.{get}
use Rattle.shelf_io.specs.Files.{Files}
use Rattle.definitions.specs.declared.Side.{Side}
use Rattle.share_format.specs.declared.file_error.FileError.TheVariants as files
use Rattle.file_eval.specs.declared.errors.EvalError.{EvalError}
use Rattle.file_eval.specs.declared.errors.EvalError.TheVariants as evals
use Rattle.file_eval.specs.Answers.{Answer, eval_answer}
use Rattle.file_gen.specs.declared.errors.GenError.{GenError}
use Rattle.file_gen.specs.declared.errors.GenError.TheVariants as gens
use Rattle.file_gen.specs.Answers.{Answer as Strings, strings_answer}
use Rattle.text_strings.specs.declared.lines_error.LinesError.TheVariants as lines
use Rattle.pair_files.specs.Made.{zero_text, one_text}
use Rattle.command_words.specs.Settings.{EvalSettings, eval_words, GenSettings, gen_words}
use Rattle.poplar_top.specs.declared.refusal.Refusal.{Refusal}
use Rattle.poplar_top.specs.declared.refusal.Refusal.TheVariants.{Missing, TooLong, Header, Cut, LongPrefix, NoStrings, StringsLong, TooMany, LineLong, ZeroByte}

-- The words give no settings; a refusal; the texts of out and of err; two names and the texts that they are to hold; or
-- nothing is said, since the shelf does not tell what `eval`, `gen`, `run` or `find` was to read, or since the link does not tell
-- what passed on it, so that how the walk of told files ended is not said.
pub data Outcome : Type 0 where
  usage : Outcome
  refusal : Refusal → Outcome
  texts : List ℕ → List ℕ → Outcome
  writes : List ℕ → List ℕ → List ℕ → List ℕ → Outcome
  untold_eval : Outcome
  untold_gen : Outcome
  untold_run : Outcome
  untold_find : Outcome
  unheard : Outcome

-- a refusal of `eval`; a failed shelf and want of memory are no outcome of what is told
abbrev pub eval_refused : Side → EvalError → Outcome
eval_refused side (evals.File files.Missing) = refusal (Missing side)
eval_refused side (evals.File (files.TooLong n)) = refusal (TooLong side)
eval_refused side (evals.File (files.Header at)) = refusal (Header side at)
eval_refused side (evals.File (files.Cut at)) = refusal (Cut side at)
eval_refused side (evals.File files.Shelf) = untold_eval
eval_refused side (evals.File files.Memory) = untold_eval
eval_refused side (evals.LongPrefix bits width) = refusal (LongPrefix bits width)
eval_refused side evals.Memory = untold_eval

abbrev pub eval_answered : Side → Answer → Outcome
eval_answered side (Ok written) = texts written.0 written.1
eval_answered side (Err e) = eval_refused side e

-- `eval` of the file, where it is there
abbrev pub eval_file_outcome : EvalSettings → Option (List ℕ) → Outcome
eval_file_outcome settings found = eval_answered settings.side (eval_answer settings.side settings.prefix found)

abbrev pub eval_told : EvalSettings → Option Files → Outcome
eval_told settings None = untold_eval
eval_told settings (Some held) = eval_file_outcome settings (get held settings.file)

abbrev pub eval_settled : Option EvalSettings → Option Files → Outcome
eval_settled None files = usage
eval_settled (Some settings) files = eval_told settings files

abbrev pub eval_outcome : List (List ℕ) → Option Files → Outcome
eval_outcome words files = eval_settled (eval_words words) files

-- ---- gen

-- a refusal of `gen`; a failed shelf and want of memory are no outcome of what is told
abbrev pub gen_refused : GenError → Outcome
gen_refused gens.Missing = refusal NoStrings
gen_refused gens.TooLong = refusal StringsLong
gen_refused (gens.Lines (lines.TooMany count)) = refusal (TooMany count)
gen_refused (gens.Lines (lines.LineLong line)) = refusal (LineLong line)
gen_refused (gens.Lines (lines.ZeroByte line)) = refusal (ZeroByte line)
gen_refused (gens.Lines lines.Memory) = untold_gen
gen_refused gens.Shelf = untold_gen
gen_refused gens.Memory = untold_gen

abbrev pub gen_answered : GenSettings → Strings → Outcome
gen_answered settings (Ok them) =
    writes settings.zero (zero_text settings.width settings.master settings.tag them)
    settings.one (one_text settings.width settings.master settings.tag them)
gen_answered settings (Err e) = gen_refused e

-- `gen` of the strings file, where it is there
abbrev pub gen_file_outcome : GenSettings → Option (List ℕ) → Outcome
gen_file_outcome settings found = gen_answered settings (strings_answer settings.width found)

abbrev pub gen_told : GenSettings → Option Files → Outcome
gen_told settings None = untold_gen
gen_told settings (Some held) = gen_file_outcome settings (get held settings.strings)

abbrev pub gen_settled : Option GenSettings → Option Files → Outcome
gen_settled None files = usage
gen_settled (Some settings) files = gen_told settings files

abbrev pub gen_outcome : List (List ℕ) → Option Files → Outcome
gen_outcome words files = gen_settled (gen_words words) files
