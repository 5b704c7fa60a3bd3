-- Words give settings exactly where the first is the command, the crate takes the others, and what it finds gives these settings.
use Rattle.std.proofs.Common.{◌≡◌, ℕ, Bool, true, false, List, [], ◌∷◌, Option, Some, None, refl, sym, subst, ap, ◌∙◌}
use Rattle.std.specs.Prelude.{codes, if◌then◌else◌, option_and_then, ◌↔◌}
use Rattle.std.specs.Str.{bytes_eq}
use Rattle.std.proofs.lemmas.Slice.Eq.{bytes_eq-Decides}
use Rattle.clap.specs.Words.{App, Kinds, Row, Text, fault_of, matches_of}
use Rattle.command_words.specs.Commands.{eval_app, gen_app, run_app, find_app, make_app}
use Rattle.command_words.specs.Laws.{Asks, SettingsAreExact}
use Rattle.command_words.specs.Reading.{faultless, found_in, settings_of}
use Rattle.command_words.specs.Settings.{eval_found, gen_found, run_found, find_found, make_found}

module _ {S : Type 0} (made : List Row → Option S) (settings : S) where
  of_found : (kinds : Kinds) (rows : List Row) → option_and_then made (faultless kinds rows) ≡ Some settings → (kinds ≡ []) × (made rows ≡ Some settings)
  of_found [] rows h = (refl, h)
  of_found (k ∷ ks) rows h = absurd cc

  to_found : (kinds : Kinds) (rows : List Row) → kinds ≡ [] → made rows ≡ Some settings → option_and_then made (faultless kinds rows) ≡ Some settings
  to_found [] rows none h = h
  to_found (k ∷ ks) rows none h = absurd cc

  module _ (command : List ℕ) (app : App) where
    pub forth : (words : List (List ℕ)) → settings_of command app made words ≡ Some settings → Asks command app made words settings
    unfolding found_in
    forth [] h = absurd cc
    forth (word ∷ rest) h = at (bytes_eq word command) refl h
      where
        at : (b : Bool) → bytes_eq word command ≡ b
            → option_and_then made (option_and_then (found_in app) (if b then Some rest else None)) ≡ Some settings
            → Asks command app made (word ∷ rest) settings
        at false other e = absurd cc
        at true same e =
            let found = of_found (fault_of app rest) (matches_of app rest) e in
            record { rest = rest; stand = ap (λ w. w ∷ rest) ((bytes_eq-Decides word command).0 same); taken = found.0; gives = found.1 }

    pub back : (words : List (List ℕ)) → Asks command app made words settings → settings_of command app made words ≡ Some settings
    unfolding found_in
    back words asks =
        subst (λ ws. settings_of command app made ws ≡ Some settings) (sym asks.stand)
        (ap (λ b. option_and_then made (option_and_then (found_in app) (if b then Some asks.rest else None))) ((bytes_eq-Decides command command).1 refl)
        ∙ to_found (fault_of app asks.rest) (matches_of app asks.rest) asks.taken asks.gives)

pub exact_law : SettingsAreExact
exact_law = record {
  eval = λ words settings. (forth eval_found settings (codes "eval") eval_app words, back eval_found settings (codes "eval") eval_app words);
  gen = λ words settings. (forth gen_found settings (codes "gen") gen_app words, back gen_found settings (codes "gen") gen_app words);
  run = λ words settings. (forth run_found settings (codes "run") run_app words, back run_found settings (codes "run") run_app words);
  find = λ words settings. (forth find_found settings (codes "find") find_app words, back find_found settings (codes "find") find_app words);
  make = λ words settings. (forth make_found settings (codes "make") make_app words, back make_found settings (codes "make") make_app words);
}
