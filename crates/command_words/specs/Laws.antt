-- What the table of commands comes to, over the definitions alone.
use Rattle.std.specs.Prelude.{◌≡◌, ◌↔◌, true, List, [], ◌∷◌, Option, Some, codes}
use Rattle.clap.specs.Words.{App, Row, Text, fault_of, is_simple_and_free, matches_of}
use Rattle.command_words.specs.Commands.{eval_app, gen_app, run_app, find_app, make_app}
use Rattle.command_words.specs.Settings.{EvalSettings, GenSettings, RunSettings, FindSettings, MakeSettings, eval_found, gen_found, run_found, find_found, make_found, eval_words, gen_words, run_words, find_words, make_words}

-- the crate's reading is that of `matches_of` and `fault_of`: the command is simple, and no argument has a rule on another
abbrev pub IsSimple : App → Type 0
IsSimple app = is_simple_and_free app ≡ true

pub record CommandsAreSimple : Type 0 where
  pub eval : IsSimple eval_app
  pub gen : IsSimple gen_app
  pub run : IsSimple run_app
  pub find : IsSimple find_app
  pub make : IsSimple make_app

-- words that ask a command for settings
pub record Asks {S : Type 0} (command : Text) (app : App) (made : List Row → Option S) (words : List Text) (settings : S) : Type 0 where
  -- the first word is the command
  pub rest : List Text
  pub stand : words ≡ command ∷ rest
  -- the crate has no fault to find with the words behind it
  pub taken : fault_of app rest ≡ []
  -- and what it finds in them gives the settings
  pub gives : made (matches_of app rest) ≡ Some settings

-- Words give settings exactly where they ask for them.
pub record SettingsAreExact : Type 0 where
  pub eval : (words : List Text) (settings : EvalSettings) → (eval_words words ≡ Some settings) ↔ Asks (codes "eval") eval_app eval_found words settings
  pub gen : (words : List Text) (settings : GenSettings) → (gen_words words ≡ Some settings) ↔ Asks (codes "gen") gen_app gen_found words settings
  pub run : (words : List Text) (settings : RunSettings) → (run_words words ≡ Some settings) ↔ Asks (codes "run") run_app run_found words settings
  pub find : (words : List Text) (settings : FindSettings) → (find_words words ≡ Some settings) ↔ Asks (codes "find") find_app find_found words settings
  pub make : (words : List Text) (settings : MakeSettings) → (make_words words ≡ Some settings) ↔ Asks (codes "make") make_app make_found words settings
