-- The commands as the crate `clap` is given them: simple ones, of options with one value each and of positional words that have to
-- be there. The crate reads the words behind the command.
use Rattle.std.specs.Prelude.{List, [], ◌∷◌, ◌++◌, Some, true, codes, fold}
use Rattle.clap.specs.Words.{App, Rule, Text, new_app, new_rule, with_rule}
use Rattle.command_words.specs.declared.arguments.Argument.{Argument}
use Rattle.command_words.specs.declared.arguments.Argument.TheVariants.{Word, Needed, Free}

-- a positional word
abbrev pub word_rule : Text → Rule
word_rule name = record (new_rule name) { required = true }

-- an option that has to be there
abbrev pub needed_rule : Text → Rule
needed_rule name = record (new_rule name) { long = Some name; required = true }

-- an option that may be left out
abbrev pub free_rule : Text → Rule
free_rule name = record (new_rule name) { long = Some name }

abbrev pub rule_for : Argument → Rule
rule_for (Word name) = word_rule name.now
rule_for (Needed name) = needed_rule name.now
rule_for (Free name) = free_rule name.now

abbrev pub with_argument : App → Argument → App
with_argument app argument = with_rule app (rule_for argument)

abbrev pub plain_app : Text → App
plain_app name = let app = new_app name in record app { top = record app.top { no_binary_name = true } }

-- a command of these arguments
abbrev pub app_with : Text → List Rule → App
app_with name rules = fold with_rule (plain_app name) rules

-- ---- the table of commands

-- the options that each walk has
abbrev pub walk_rules : List Rule
walk_rules = free_rule (codes "workers") ∷ free_rule (codes "uploaders") ∷ free_rule (codes "cap") ∷ free_rule (codes "cache")
    ∷ free_rule (codes "verify") ∷ free_rule (codes "drill") ∷ []

-- eval SIDE PREFIX FILE
unfoldable pub eval_app : App
eval_app = app_with (codes "eval") (word_rule (codes "side") ∷ word_rule (codes "prefix") ∷ word_rule (codes "file") ∷ [])

-- gen --width N --master SEED [--tag N] STRINGS OUT0 OUT1
unfoldable pub gen_app : App
gen_app = app_with (codes "gen") (word_rule (codes "strings") ∷ word_rule (codes "zero") ∷ word_rule (codes "one")
    ∷ needed_rule (codes "width") ∷ needed_rule (codes "master") ∷ free_rule (codes "tag") ∷ [])

-- run --threshold N [the options of a walk] FILE0 FILE1
unfoldable pub run_app : App
run_app = app_with (codes "run")
    ((word_rule (codes "zero") ∷ word_rule (codes "one") ∷ needed_rule (codes "threshold") ∷ []) ++ walk_rules)

-- find --width N --threshold N [--master SEED] [--tag N] [the options of a walk] STRINGS
unfoldable pub find_app : App
find_app = app_with (codes "find")
    ((word_rule (codes "strings") ∷ needed_rule (codes "width") ∷ needed_rule (codes "threshold")
    ∷ free_rule (codes "master") ∷ free_rule (codes "tag") ∷ []) ++ walk_rules)

-- make --reports N --width N --threshold N [--master SEED] [the options of a walk]
unfoldable pub make_app : App
make_app = app_with (codes "make")
    ((needed_rule (codes "reports") ∷ needed_rule (codes "width") ∷ needed_rule (codes "threshold")
    ∷ free_rule (codes "master") ∷ []) ++ walk_rules)
