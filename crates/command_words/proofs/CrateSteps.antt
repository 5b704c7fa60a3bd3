-- What the crate's reading of words comes to, and its list of arguments one by one.
use Rattle.std.proofs.Common.{◌≡◌, ◌≢◌, ◌<◌, ◌+◌, ◌∙◌, ap, ap₂, slice_index_or, true, false, Bool, ℕ, List, [], ◌∷◌, length, Some, None, refl, sym, Result, Err, IfOk, subst, inl, inr, fold, take}
use Rattle.std.specs.Prelude.{◌&&◌}
use Rattle.std.specs.declared.alloc.AllocError.{AllocError}
use Rattle.std.proofs.lemmas.Result.{IfOk-weaker}
use Rattle.std.proofs.lemmas.List.Sums.{fold_more}
use Rattle.clap.specs.declared.builder.command.Command.{Command}
use Rattle.command_words.specs.declared.arguments.Argument.{Argument}
use Rattle.command_words.specs.Commands.{rule_for, with_argument}
use Rattle.clap.specs.Words.{App, app_of, Row, Rule, Text, Kinds, IsAmong, HasMatchesOf, HasKind, kind_of, is_simple, is_simple_and_free, matches_of, fault_of, rows_of, found_of, with_rule}
use Rattle.clap.specs.declared.parser.matches.ArgMatches.{ArgMatches}
use Rattle.clap.specs.declared.error.Error.{Error}
use Rattle.clap.specs.declared.error.kind.ErrorKind.TheVariants.{OutOfMemory}
use Rattle.command_words.specs.Reading.{Reads, faultless, found_in}
use Rattle.command_words.specs.declared.words_error.WordsError.{WordsError}
use Rattle.command_words.specs.declared.words_error.WordsError.TheVariants.{Usage, Memory}

both_of : (a b : Bool) → (a && b) ≡ true → a ≡ true
both_of true b e = refl
both_of false b e = absurd (cc)

some_found : (kinds : Kinds) (rows : List Row) → kinds ≡ [] → faultless kinds rows ≡ Some rows
some_found [] rows e = refl
some_found (k ∷ ks) rows e = absurd (cc)

none_found : (kinds : Kinds) (rows : List Row) → kinds ≢ [] → faultless kinds rows ≡ None
none_found [] rows full = absurd (full refl)
none_found (k ∷ ks) rows full = refl

-- matches that the crate gives are what it finds
pub found_ok : (app : App) (words : List Text) (m : ArgMatches) → is_simple_and_free app ≡ true
    → (is_simple_and_free app ≡ true → fault_of app words ≡ []) → HasMatchesOf app words m → found_in app words ≡ Some (rows_of (found_of m))
unfolding found_in
found_ok app words m free none matches =
    some_found (fault_of app words) (matches_of app words) (none free) ∙ ap Some (sym (matches (both_of (is_simple app) _ free)).0)

-- an error of the crate for another cause than memory means that it finds nothing
pub found_not : (app : App) (words : List Text) (e : Error) (r : WordsError) → is_simple_and_free app ≡ true
    → (is_simple_and_free app ≡ true → HasKind (fault_of app words) e) → (kind_of e ≡ OutOfMemory → r ≡ Memory)
    → Reads (λ m. rows_of (found_of m)) (found_in app words) (Err r)
unfolding found_in
found_not app words e Memory free kinds memory = tt
found_not app words e Usage free kinds memory = none_found (fault_of app words) (matches_of app words) (λ none. elim (kinds free) [
  | inl out ↦
      let bad : Usage ≡ Memory = memory out in
      cc
  | inr among ↦ subst (IsAmong (kind_of e)) none among
])

-- one more argument of a list is added
pub one_more : (app old new : App) (rule : Rule) (arguments : List Argument) (i : ℕ) (d : Argument) → i < length arguments
    → old ≡ fold with_argument app (take i arguments) → new ≡ with_rule old rule → rule ≡ rule_for (slice_index_or arguments i d)
    → new ≡ fold with_argument app (take (i + 1) arguments)
one_more app old new rule arguments i d inside before added is =
    added ∙ ap₂ with_rule before is ∙ sym (fold_more with_argument app arguments i d inside)

-- the app of a command that was given a list of arguments
pub given : (r : Result Command AllocError) (app model : App) (arguments list : List Argument) → app ≡ model → arguments ≡ list
    → IfOk r (λ c. app_of c ≡ fold with_argument app arguments) → IfOk r (λ c. app_of c ≡ fold with_argument model list)
given r app model arguments list same is holds = IfOk-weaker r _ _ (λ c h. h ∙ ap₂ (fold with_argument) same is) holds
