-- What `find` and `make` come to: the strings first, then the walk over what is made of them, as it was heard or as it is by its
-- definition. Both are a search over strings: those of a file, or those of the workload.
use Rattle.std.specs.Prelude.{Bool, true, false, List, ℕ, Option, None, Some, Ok, Err}
use Rattle.shelf_io.specs.Files.{Files}
use Rattle.text_strings.specs.declared.lines_error.LinesError.TheVariants as lines
use Rattle.pair_run.specs.declared.answers.PairError.TheVariants as walks
use Rattle.answer_text.specs.AnswerText.{answer_text}
use Rattle.file_gen.specs.declared.errors.GenError.{GenError}
use Rattle.file_gen.specs.declared.errors.GenError.TheVariants as gens
use Rattle.file_gen.specs.Answers.{Answer as Strings}
use Rattle.file_run.specs.Answers.{Ending}
use Rattle.file_find.specs.declared.errors.FindError.{FindError}
use Rattle.file_find.specs.declared.errors.FindError.TheVariants as finds
use Rattle.file_find.specs.declared.rules.FindRules.{FindRules}
use Rattle.file_find.specs.Answers.{Text, Answer, find_answer}
use Rattle.file_find.specs.Texts.{summary_text}
use Rattle.file_find.specs.Walks.{file_strings, workload_strings}
use Rattle.command_words.specs.Settings.{FindSettings, MakeSettings, find_words, make_words}
use Rattle.poplar_top.specs.declared.refusal.Refusal.TheVariants.{NoStrings, StringsLong, TooMany, LineLong, ZeroByte, Walk}
use Rattle.poplar_top.specs.declared.walk_refusal.WalkRefusal.TheVariants as refused
use Rattle.poplar_top.specs.Outcomes.{Outcome}
use Rattle.poplar_top.specs.Outcomes.Outcome.{usage, refusal, texts, untold_find, unheard}

-- ---- errors as refusals; a failed shelf or link and want of memory are no outcome of what is told

abbrev pub strings_refused : GenError → Outcome
strings_refused gens.Missing = refusal NoStrings
strings_refused gens.TooLong = refusal StringsLong
strings_refused (gens.Lines (lines.TooMany count)) = refusal (TooMany count)
strings_refused (gens.Lines (lines.LineLong line)) = refusal (LineLong line)
strings_refused (gens.Lines (lines.ZeroByte line)) = refusal (ZeroByte line)
strings_refused (gens.Lines lines.Memory) = untold_find
strings_refused gens.Shelf = untold_find
strings_refused gens.Memory = untold_find

abbrev pub find_refused : FindError → Outcome
find_refused (finds.Strings e) = strings_refused e
find_refused (finds.Walk (walks.Cap level wanted)) = refusal (Walk (refused.Cap level wanted))
find_refused (finds.Walk walks.Link) = untold_find
find_refused (finds.Walk (walks.PeerMessage level kind at)) = refusal (Walk (refused.PeerMessage level kind at))
find_refused (finds.Walk (walks.Views level kind place left right)) = refusal (Walk (refused.Views level kind place left right))
find_refused (finds.Walk walks.Memory) = untold_find
find_refused finds.Memory = untold_find

-- ---- a search

abbrev pub search_answered : Answer → Outcome
search_answered (Ok written) = texts written.0 written.1
search_answered (Err e) = find_refused e

-- strings come to a walk, of which nothing is said where the link does not tell
abbrev pub unheard_search : Strings → Outcome
unheard_search (Ok strings) = unheard
unheard_search (Err e) = strings_refused e

-- the search over these strings, or over none, where the walk ends this way; with no way, the link does not tell
abbrev pub search_outcome : Text → Option Ending → FindRules → Strings → Outcome
search_outcome text None rules found = unheard_search found
search_outcome text (Some ending) rules found = search_answered (find_answer text ending rules found)

-- whether there are strings, so that there is a walk
abbrev pub are_found : Strings → Bool
are_found (Ok strings) = true
are_found (Err e) = false

-- ---- find

-- what the search is told
abbrev pub find_rules : FindSettings → FindRules
find_rules settings = record {
  width = settings.width;
  threshold = settings.threshold;
  master = settings.master;
  tag = settings.tag;
  workers = settings.options.workers;
  uploaders = settings.options.uploaders;
  cap = settings.options.cap;
  cache = settings.options.cache;
  verify = settings.options.verify;
  drill = settings.options.drill;
}

-- the strings of the file
abbrev pub find_strings : FindSettings → Files → Strings
find_strings settings held = file_strings settings.strings (find_rules settings) held

abbrev pub find_told : Option Ending → FindSettings → Option Files → Outcome
find_told ending settings None = untold_find
find_told ending settings (Some held) = search_outcome answer_text ending (find_rules settings) (find_strings settings held)

abbrev pub find_settled : Option Ending → Option FindSettings → Option Files → Outcome
find_settled ending None files = usage
find_settled ending (Some settings) files = find_told ending settings files

abbrev pub find_outcome : Option Ending → List (List ℕ) → Option Files → Outcome
find_outcome ending words files = find_settled ending (find_words words) files

-- whether the settings and the told files come to a walk; where the shelf does not tell, they may
abbrev pub find_walks : Option FindSettings → Option Files → Bool
find_walks None files = false
find_walks (Some settings) None = true
find_walks (Some settings) (Some held) = are_found (find_strings settings held)

-- ---- make

-- what the search is told: the tag is 0
abbrev pub make_rules : MakeSettings → FindRules
make_rules settings = record {
  width = settings.width;
  threshold = settings.threshold;
  master = settings.master;
  tag = 0;
  workers = settings.options.workers;
  uploaders = settings.options.uploaders;
  cap = settings.options.cap;
  cache = settings.options.cache;
  verify = settings.options.verify;
  drill = settings.options.drill;
}

-- the strings of the workload
abbrev pub make_strings : MakeSettings → Strings
make_strings settings = workload_strings settings.reports (make_rules settings)

abbrev pub make_settled : Option Ending → Option MakeSettings → Outcome
make_settled ending None = usage
make_settled ending (Some settings) = search_outcome summary_text ending (make_rules settings) (make_strings settings)

abbrev pub make_outcome : Option Ending → List (List ℕ) → Outcome
make_outcome ending words = make_settled ending (make_words words)

abbrev pub make_walks : Option MakeSettings → Bool
make_walks None = false
make_walks (Some settings) = are_found (make_strings settings)
