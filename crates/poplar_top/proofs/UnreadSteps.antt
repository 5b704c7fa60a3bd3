-- The promise of each command where its words are not read: they give no settings, or memory was wanting for them.
use Rattle.std.proofs.Common.{◌≡◌, ◌≤◌, ◌⊎◌, inl, inr, ℕ, Bool, false, List, Option, None, Some, refl, sym, subst, ap, arith}
use Rattle.std.specs.Prelude.{Result, Ok, Err}
use Rattle.shelf_io.specs.Files.{Files}
use Rattle.shelf_io.specs.Seen.{LinkSeen, SinkSeen, Outside}
use Rattle.shelf_io.specs.Texts.{GrewWithin}
use Rattle.file_run.specs.declared.errors.RunError.{RunError}
use Rattle.walk_definitions.specs.Walk.{walk}
use Rattle.file_run.specs.Answers.{Ending}
use Rattle.file_run.specs.Hearings.{heard_ending}
use Rattle.file_run.specs.Beginnings.{Both}
use Rattle.command_words.specs.declared.words_error.WordsError.{WordsError}
use Rattle.command_words.specs.declared.words_error.WordsError.TheVariants.{Usage, Memory}
use Rattle.command_words.specs.Reading.{Reads}
use Rattle.command_words.specs.Seen.{eval_seen, gen_seen, run_seen, find_seen, make_seen}
use Rattle.command_words.specs.Settings.{RunSettings, FindSettings, MakeSettings, eval_words, gen_words, run_words, find_words, make_words}
use Rattle.poplar_top.specs.declared.stop.Stop.TheVariants as stops
use Rattle.poplar_top.specs.Commands.{generates, runs, finds, makes, evaluates}
use Rattle.poplar_top.specs.Keeps.{Meets, KeepsOf}
use Rattle.poplar_top.specs.Outcomes.{Outcome, eval_settled, gen_settled}
use Rattle.poplar_top.specs.Outcomes.Outcome.{usage}
use Rattle.answer_text.specs.AnswerText.{answer_text}
use Rattle.file_gen.specs.Answers.{Answer as Strings}
use Rattle.file_find.specs.declared.rules.FindRules.{FindRules}
use Rattle.file_find.specs.Answers.{Text}
use Rattle.file_find.specs.Texts.{summary_text}
use Rattle.poplar_top.specs.FindLinks.{SearchSends, FindSends, MakeSends, SearchFinds, FindFindsIn, FindFinds, MakeFinds}
use Rattle.poplar_top.specs.FindOutcomes.{find_rules, find_strings, find_settled, find_walks, make_rules, make_strings, make_settled, make_walks}
use Rattle.poplar_top.specs.RunOutcomes.{files_asked, run_settled, run_walks}
use Rattle.poplar_top.specs.RunLinks.{FilesSend, RunSends, FilesFind, RunFinds}
use Rattle.poplar_top.specs.Statuses.{fault_line}
use Rattle.poplar_top.specs.Stops.{words_status}
use Rattle.poplar_top.proofs.KeptSteps.{shelf_kept}
use Rattle.poplar_top.proofs.MeetSteps.{is_later, still_later, may_stop, stop_meets}
use Rattle.poplar_top.proofs.RunSteps.{quiet_sends, unsent_sends}

-- where the words are usage there are no settings
abbrev pub GivesNone : {S : Type 0} → Option S → WordsError → Type 0
GivesNone given Usage = given ≡ None
GivesNone given Memory = Unit {0}

-- and the outcome is usage
abbrev IsUsage : Outcome → WordsError → Type 0
IsUsage o Usage = o ≡ usage
IsUsage o Memory = Unit {0}

usage_is : {S : Type 0} (outcome : Option S → Outcome) (given : Option S) (error : WordsError) → outcome None ≡ usage → GivesNone given error
    → IsUsage (outcome given) error
usage_is outcome given Usage is none = subst (λ s. outcome s ≡ usage) (sym none) is
usage_is outcome given Memory is none = tt

unread_meets : (o : Outcome) (asked : Bool) (before after : Outside) (error : WordsError) → IsUsage o error → after.out ≡ before.out
    → GrewWithin before.err.taken after.err.taken (fault_line (words_status error)) → after.shelf.files ≡ before.shelf.files
    → Meets o asked before after (words_status error)
unread_meets o asked before after Usage is same line kept =
    subst (λ o. Meets o asked before after 2) (sym is)
    (record { status = inl refl; out = ap (λ (s : SinkSeen). s.taken) same; err = line; order = tt; shelf = kept })
unread_meets o asked before after Memory is same line kept =
    stop_meets o asked before after stops.Memory (may_stop o stops.Memory tt) (inr (inr (inr (inr refl)))) same line
    (shelf_kept o 8 before.shelf.files after.shelf.files (λ e. omega (arith, e)) kept)

-- such a status is neither 0 nor 9
not_zero : (error : WordsError) → words_status error ≡ 0 → ⊥
not_zero Usage e = omega (arith, e)
not_zero Memory e = omega (arith, e)

not_nine : (error : WordsError) → words_status error ≡ 9 → ⊥
not_nine Usage e = omega (arith, e)
not_nine Memory e = omega (arith, e)

-- ---- what passes in `run`, and what it finds: nothing

files_send : (settings : RunSettings) (found : Result Both RunError) (before after : LinkSeen) → after.talk ≡ before.talk
    → FilesSend settings found before after 8
files_send settings (Ok both) before after same = unsent_sends _ _ before after 8 same (inr (inr (inr refl)))
files_send settings (Err e) before after same = same

memory_sends : (given : Option RunSettings) (files : Option Files) (before after : LinkSeen) → after.talk ≡ before.talk
    → RunSends given files before after 8
memory_sends None files before after same = same
memory_sends (Some settings) None before after same = λ _. same
memory_sends (Some settings) (Some held) before after same = files_send settings (files_asked settings held) before after same

unread_sends : (given : Option RunSettings) (files : Option Files) (before after : LinkSeen) (error : WordsError) → GivesNone given error
    → after.talk ≡ before.talk → RunSends given files before after (words_status error)
unread_sends given files before after Usage none same = subst (λ s. RunSends s files before after 2) (sym none) same
unread_sends given files before after Memory none same = memory_sends given files before after same

-- ---- and in `find` and `make`

eight : (n : ℕ) → n ≡ 8 → (n ≡ 0) ⊎ ((n ≡ 5) ⊎ ((n ≡ 9) ⊎ (n ≡ 10))) → ⊥
eight n is (inl h) = omega (arith, is, h)
eight n is (inr (inl h)) = omega (arith, is, h)
eight n is (inr (inr (inl h))) = omega (arith, is, h)
eight n is (inr (inr (inr h))) = omega (arith, is, h)

search_sends : (rules : FindRules) (found : Strings) (before after : LinkSeen) → after.talk ≡ before.talk → SearchSends rules found before after 8
search_sends rules (Ok strings) before after same = quiet_sends _ _ before after 8 same (eight 8 refl)
search_sends rules (Err e) before after same = same

find_memory_sends : (given : Option FindSettings) (files : Option Files) (before after : LinkSeen) → after.talk ≡ before.talk
    → FindSends given files before after 8
find_memory_sends None files before after same = same
find_memory_sends (Some settings) None before after same = λ _. same
find_memory_sends (Some settings) (Some held) before after same = search_sends (find_rules settings) (find_strings settings held) before after same

find_sends : (given : Option FindSettings) (files : Option Files) (before after : LinkSeen) (error : WordsError) → GivesNone given error
    → after.talk ≡ before.talk → FindSends given files before after (words_status error)
find_sends given files before after Usage none same = subst (λ s. FindSends s files before after 2) (sym none) same
find_sends given files before after Memory none same = find_memory_sends given files before after same

make_memory_sends : (given : Option MakeSettings) (before after : LinkSeen) → after.talk ≡ before.talk → MakeSends given before after 8
make_memory_sends None before after same = same
make_memory_sends (Some settings) before after same = search_sends (make_rules settings) (make_strings settings) before after same

make_sends : (given : Option MakeSettings) (before after : LinkSeen) (error : WordsError) → GivesNone given error → after.talk ≡ before.talk
    → MakeSends given before after (words_status error)
make_sends given before after Usage none same = subst (λ s. MakeSends s before after 2) (sym none) same
make_sends given before after Memory none same = make_memory_sends given before after same

search_finds : (text : Text) (rules : FindRules) (found : Strings) (before after : Outside) (status : ℕ) → (status ≡ 0 → ⊥) → (status ≡ 5 → ⊥)
    → SearchFinds text rules found before after status
search_finds text rules (Ok strings) before after status zero five = record { found = λ e. absurd (zero e); capped = λ e. absurd (five e) }
search_finds text rules (Err e) before after status zero five = tt

find_finds : (given : Option FindSettings) (before after : Outside) (status : ℕ) → (status ≡ 0 → ⊥) → (status ≡ 5 → ⊥) → FindFinds given before after status
find_finds None before after status zero five = tt
find_finds (Some settings) before after status zero five = told before.shelf.files
  where
    told : (files : Option Files) → FindFindsIn settings files before after status
    told None = tt
    told (Some held) = search_finds answer_text (find_rules settings) (find_strings settings held) before after status zero five

make_finds : (given : Option MakeSettings) (before after : Outside) (status : ℕ) → (status ≡ 0 → ⊥) → (status ≡ 5 → ⊥) → MakeFinds given before after status
make_finds None before after status zero five = tt
make_finds (Some settings) before after status zero five =
    search_finds summary_text (make_rules settings) (make_strings settings) before after status zero five

not_five : (error : WordsError) → words_status error ≡ 5 → ⊥
not_five Usage e = omega (arith, e)
not_five Memory e = omega (arith, e)

not_six : (error : WordsError) → words_status error ≡ 6 → ⊥
not_six Usage e = omega (arith, e)
not_six Memory e = omega (arith, e)

-- ---- honest reports of `run`

files_find : (settings : RunSettings) (found : Result Both RunError) (before after : Outside) (status : ℕ) → (status ≡ 0 → ⊥)
    → FilesFind settings found before after status
files_find settings (Ok both) before after status other = λ zero. absurd (other zero)
files_find settings (Err e) before after status other = tt

unread_finds : (given : Option RunSettings) (before after : Outside) (status : ℕ) → (status ≡ 0 → ⊥) → RunFinds given before after status
unread_finds None before after status other = tt
unread_finds (Some settings) before after status other = told before.shelf.files
  where
    told : (files : Option Files) → Rattle.poplar_top.specs.RunLinks.FindsIn settings files before after status
    told None = tt
    told (Some held) = files_find settings (files_asked settings held) before after status other

-- ---- the promises

-- an error of a reading says whether there are settings
none_read : {A S : Type 0} (seen : A → S) (asked : Option S) (error : WordsError) → Reads seen asked (Err error) → GivesNone asked error
none_read seen asked Usage reads = reads
none_read seen asked Memory reads = tt

module _ (words : List (List ℕ)) (before after : Outside) (error : WordsError) (same : after.link ≡ before.link) (still : after.out ≡ before.out)
    (shelf : after.shelf ≡ before.shelf) (later : before.err.faults ≤ after.err.faults) (status : ℕ) (is_status : status ≡ words_status error)
    (told : GrewWithin before.err.taken after.err.taken (fault_line status)) where
  line : GrewWithin before.err.taken after.err.taken (fault_line (words_status error))
  line = subst (λ n. GrewWithin before.err.taken after.err.taken (fault_line n)) is_status told

  kept : after.shelf.files ≡ before.shelf.files
  kept = ap (λ s. s.files) shelf

  shelf_later : before.shelf.faults ≤ after.shelf.faults
  shelf_later = subst (λ s. before.shelf.faults ≤ s.faults) (sym shelf) (omega arith)

  keeps_eval : GivesNone (eval_words words) error → KeepsOf evaluates words before after (words_status error)
  keeps_eval none =
      let is = usage_is (λ s. eval_settled s before.shelf.files) (eval_words words) error refl none in
      let meets = unread_meets (eval_settled (eval_words words) before.shelf.files) false before after error is still line kept in record {
        heard = meets;
        sends = same;
        kept = kept;
        later = is_later before after same shelf_later (still_later before.out after.out still) later;
        truly = λ ready. meets;
        agreed = λ ready. not_nine error;
        finds = λ ready. tt;
      }

  keeps_gen : GivesNone (gen_words words) error → KeepsOf generates words before after (words_status error)
  keeps_gen none =
      let is = usage_is (λ s. gen_settled s before.shelf.files) (gen_words words) error refl none in
      let meets = unread_meets (gen_settled (gen_words words) before.shelf.files) false before after error is still line kept in record {
        heard = meets;
        sends = same;
        kept = tt;
        later = is_later before after same shelf_later (still_later before.out after.out still) later;
        truly = λ ready. meets;
        agreed = λ ready. not_nine error;
        finds = λ ready. tt;
      }

  keeps_run : GivesNone (run_words words) error → KeepsOf runs words before after (words_status error)
  keeps_run none =
      let walks = run_walks (run_words words) before.shelf.files in
      let meets = λ (ending : Option Ending).
      unread_meets (run_settled ending (run_words words) before.shelf.files) walks before after error
      (usage_is (λ s. run_settled ending s before.shelf.files) (run_words words) error refl none) still line kept in record {
        heard = meets (heard_ending before.link.talk after.link.talk);
        sends = unread_sends (run_words words) before.shelf.files before.link after.link error none (ap (λ (l : LinkSeen). l.talk) same);
        kept = kept;
        later = is_later before after same shelf_later (still_later before.out after.out still) later;
        truly = λ ready. meets (Some walk);
        agreed = λ ready. not_nine error;
        finds = λ ready. unread_finds (run_words words) before after (words_status error) (not_zero error);
      }

  pub unread_eval : Reads eval_seen (eval_words words) (Err error) → KeepsOf evaluates words before after status
  unread_eval reads =
      subst (λ n. KeepsOf evaluates words before after n) (sym is_status) (keeps_eval (none_read eval_seen (eval_words words) error reads))

  pub unread_gen : Reads gen_seen (gen_words words) (Err error) → KeepsOf generates words before after status
  unread_gen reads =
      subst (λ n. KeepsOf generates words before after n) (sym is_status) (keeps_gen (none_read gen_seen (gen_words words) error reads))

  pub unread_run : Reads run_seen (run_words words) (Err error) → KeepsOf runs words before after status
  unread_run reads =
      subst (λ n. KeepsOf runs words before after n) (sym is_status) (keeps_run (none_read run_seen (run_words words) error reads))

  keeps_find : GivesNone (find_words words) error → KeepsOf finds words before after (words_status error)
  keeps_find none =
      let walks = find_walks (find_words words) before.shelf.files in
      let meets = λ (ending : Option Ending).
      unread_meets (find_settled ending (find_words words) before.shelf.files) walks before after error
      (usage_is (λ s. find_settled ending s before.shelf.files) (find_words words) error refl none) still line kept in record {
        heard = meets (heard_ending before.link.talk after.link.talk);
        sends = find_sends (find_words words) before.shelf.files before.link after.link error none (ap (λ (l : LinkSeen). l.talk) same);
        kept = kept;
        later = is_later before after same shelf_later (still_later before.out after.out still) later;
        truly = λ ready. meets (Some walk);
        agreed = λ ready. not_nine error;
        finds = λ ready. find_finds (find_words words) before after (words_status error) (not_zero error) (not_five error);
      }

  pub unread_find : Reads find_seen (find_words words) (Err error) → KeepsOf finds words before after status
  unread_find reads =
      subst (λ n. KeepsOf finds words before after n) (sym is_status) (keeps_find (none_read find_seen (find_words words) error reads))

  keeps_make : GivesNone (make_words words) error → KeepsOf makes words before after (words_status error)
  keeps_make none =
      let walks = make_walks (make_words words) in
      let meets = λ (ending : Option Ending).
      unread_meets (make_settled ending (make_words words)) walks before after error
      (usage_is (λ s. make_settled ending s) (make_words words) error refl none) still line kept in record {
        heard = meets (heard_ending before.link.talk after.link.talk);
        sends = make_sends (make_words words) before.link after.link error none (ap (λ (l : LinkSeen). l.talk) same);
        kept = (shelf, not_six error);
        later = is_later before after same shelf_later (still_later before.out after.out still) later;
        truly = λ ready. meets (Some walk);
        agreed = λ ready. not_nine error;
        finds = λ ready. make_finds (make_words words) before after (words_status error) (not_zero error) (not_five error);
      }

  pub unread_make : Reads make_seen (make_words words) (Err error) → KeepsOf makes words before after status
  unread_make reads =
      subst (λ n. KeepsOf makes words before after n) (sym is_status) (keeps_make (none_read make_seen (make_words words) error reads))
