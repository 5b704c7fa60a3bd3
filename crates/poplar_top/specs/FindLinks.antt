-- What passes on the link in `find` and `make`, and what they print, by the status.
use Rattle.std.specs.Prelude.{◌≡◌, ◌≢◌, ◌⊎◌, ℕ, ◌*◌, Bool, List, [], ◌++◌, Option, None, Some, Ok, Err, length}
use Rattle.shelf_io.specs.Files.{Files}
use Rattle.shelf_io.specs.Seen.{LinkSeen, ShelfSeen, Outside, sink_seen, link_seen}
use Rattle.shelf_io.specs.declared.link.Link as links
use Rattle.shelf_io.specs.declared.sink.Sink as sinks
use Rattle.shelf_io.specs.Texts.{Grew, GrewWithin}
use Rattle.walk_definitions.specs.Heavy.{heavy}
use Rattle.answer_text.specs.AnswerText.{answer_text, sealed_line}
use Rattle.file_gen.specs.Answers.{Answer as Strings}
use Rattle.pair_shares.specs.Laws.{IsLastOf, IsCapOf}
use Rattle.file_find.specs.declared.rules.FindRules.{FindRules}
use Rattle.file_find.specs.Answers.{Text}
use Rattle.file_find.specs.Texts.{summary_text}
use Rattle.file_find.specs.Walks.{settings_for, reports_for}
use Rattle.command_words.specs.Settings.{FindSettings, MakeSettings}
use Rattle.poplar_top.specs.declared.walk_refusal.WalkRefusal.TheVariants.{Cap}
use Rattle.poplar_top.specs.Refusals.{walk_line}
use Rattle.poplar_top.specs.FindOutcomes.{find_rules, find_strings, make_rules, make_strings}
use Rattle.poplar_top.specs.RunLinks.{WalkSends}

-- what a command is given that gets no shelf, whatever shelf stands there
abbrev pub outside_but_shelf : {K E L : Type 0} → sinks.Ghosts K → sinks.Ghosts E → links.Ghosts L → ShelfSeen → K → E → L → Outside
outside_but_shelf K E L shelf out err link = record { shelf = shelf; out = sink_seen K out; err = sink_seen E err; link = link_seen L link }

-- nothing passes where there are no strings
abbrev pub SearchSends : FindRules → Strings → LinkSeen → LinkSeen → ℕ → Type 0
SearchSends rules (Ok strings) before after status = WalkSends (settings_for rules) (reports_for rules strings) before after status
SearchSends rules (Err e) before after status = after.talk ≡ before.talk

-- nor where the words give no settings; where the shelf does not tell, not at a status of the strings or of the shelf
abbrev pub FindSends : Option FindSettings → Option Files → LinkSeen → LinkSeen → ℕ → Type 0
FindSends None files before after status = after.talk ≡ before.talk
FindSends (Some settings) None before after status = (status ≡ 11) ⊎ (status ≡ 6) → after.talk ≡ before.talk
FindSends (Some settings) (Some held) before after status =
    SearchSends (find_rules settings) (find_strings settings held) before after status

abbrev pub MakeSends : Option MakeSettings → LinkSeen → LinkSeen → ℕ → Type 0
MakeSends None before after status = after.talk ≡ before.talk
MakeSends (Some settings) before after status = SearchSends (make_rules settings) (make_strings settings) before after status

-- ---- the frequent strings

-- the level at which a search that found its strings ended: the first that is the last of all or has no frequent prefix
pub record IsEndOf (rules : FindRules) (strings : List (List Bool)) (level : ℕ) : Type 0 where
  pub last : IsLastOf (settings_for rules) strings level
  pub done : (level ≡ 8 * rules.width) ⊎ (heavy level strings rules.threshold ≡ [])

pub record HeavyFound (text : Text) (rules : FindRules) (strings : List (List Bool)) (before after : Outside) (status : ℕ) : Type 0 where
  -- On 0 out got just the strings that at least the threshold hold, with their counts, and err that all reports passed.
  pub found : status ≡ 0 → Grew before.out.taken after.out.taken (text (heavy (8 * rules.width) strings rules.threshold))
      × ((level : ℕ) × IsEndOf rules strings level
      × Grew before.err.taken after.err.taken (sealed_line (length strings) (length strings) level))
  -- On 5 there is a first level below the last whose frequent prefixes, twice, are more than the cap, and err tells of it.
  pub capped : status ≡ 5 → (level wanted : ℕ) × IsCapOf (settings_for rules) strings level wanted
      × GrewWithin before.err.taken after.err.taken (walk_line (Cap level wanted))

abbrev pub SearchFinds : Text → FindRules → Strings → Outside → Outside → ℕ → Type 0
SearchFinds text rules (Ok strings) before after status = HeavyFound text rules strings before after status
SearchFinds text rules (Err e) before after status = Unit {0}

abbrev pub FindFindsIn : FindSettings → Option Files → Outside → Outside → ℕ → Type 0
FindFindsIn settings None before after status = Unit {0}
FindFindsIn settings (Some held) before after status =
    SearchFinds answer_text (find_rules settings) (find_strings settings held) before after status

abbrev pub FindFinds : Option FindSettings → Outside → Outside → ℕ → Type 0
FindFinds None before after status = Unit {0}
FindFinds (Some settings) before after status = FindFindsIn settings before.shelf.files before after status

abbrev pub MakeFinds : Option MakeSettings → Outside → Outside → ℕ → Type 0
MakeFinds None before after status = Unit {0}
MakeFinds (Some settings) before after status =
    SearchFinds summary_text (make_rules settings) (make_strings settings) before after status
