-- What the outcome and the relation of statuses come to: each status of a cause stands exactly for that cause.
use Rattle.std.specs.Prelude.{◌≡◌, ◌⊎◌, ◌++◌, ◌*◌, ◌-◌, ◌≤◌, ◌<◌, ℕ, List, Bool, false, IsTrue, Some, Ok, length}
use Rattle.shelf_io.specs.Faults.{Rose}
use Rattle.shelf_io.specs.Seen.{Outside}
use Rattle.walk_definitions.specs.Reports.{Report}
use Rattle.walk_definitions.specs.Walk.{Settings, Heavy, End, done, capped, ending, walk}
use Rattle.walk_definitions.specs.Heavy.{heavy}
use Rattle.walk_laws.specs.LastLevel.{EndsOnce}
use Rattle.pair_run.specs.Keeps.{IsOwnEnd}
use Rattle.answer_text.specs.AnswerText.{answer_text, sealed_line}
use Rattle.file_run.specs.Beginnings.{Both, settings_for, batch_for, refused_for}
use Rattle.command_words.specs.Settings.{RunSettings}
use Rattle.poplar_top.specs.declared.refusal.Refusal.{Refusal}
use Rattle.poplar_top.specs.declared.refusal.Refusal.TheVariants.{Walk}
use Rattle.poplar_top.specs.declared.walk_refusal.WalkRefusal.TheVariants.{Cap}
use Rattle.poplar_top.specs.RunOutcomes.{rules_asked, run_files_outcome}
use Rattle.std.specs.List.{All}
use Rattle.definitions.specs.Field.{modulus}
use Rattle.file_find.specs.declared.rules.FindRules.{FindRules}
use Rattle.file_find.specs.Answers.{Text, ended}
use Rattle.poplar_top.specs.FindOutcomes.{search_answered, search_outcome}
use Rattle.poplar_top.specs.Outcomes.{Outcome}
use Rattle.poplar_top.specs.Outcomes.Outcome.{usage, refusal, texts, writes, untold_eval, untold_gen, untold_run, untold_find, unheard}
use Rattle.poplar_top.specs.Refusals.{status_of}
use Rattle.poplar_top.specs.Statuses.{Stands, asks_shelf, asks_sinks}

-- the shelf tells what the command was to read, or was not asked; and the link what passed on it
abbrev pub IsTold : Outcome → Type 0
IsTold untold_eval = ⊥
IsTold untold_gen = ⊥
IsTold untold_run = ⊥
IsTold untold_find = ⊥
IsTold unheard = ⊥
IsTold usage = Unit {0}
IsTold (refusal r) = Unit {0}
IsTold (texts out err) = Unit {0}
IsTold (writes zero_name zero_text one_name one_text) = Unit {0}

-- whose count of faults rose
abbrev pub ShelfRose : Outside → Outside → Type 0
ShelfRose before after = Rose before.shelf.faults after.shelf.faults

abbrev pub LinkRose : Outside → Outside → Type 0
LinkRose before after = Rose before.link.faults after.link.faults

abbrev pub SinkRose : Outside → Outside → Type 0
SinkRose before after = Rose before.out.faults after.out.faults ⊎ Rose before.err.faults after.err.faults

-- Status 2 stands only where the words give no settings; and then, where the link is not asked, only 2 or want of memory stands.
pub record UsageIsExact : Type 0 where
  pub only : (o : Outcome) (asked : Bool) (before after : Outside) → Stands o asked before after 2 → o ≡ usage
  pub all : (o : Outcome) (before after : Outside) (status : ℕ) → o ≡ usage → Stands o false before after status
      → (status ≡ 2) ⊎ (status ≡ 8)

-- A refusal's status stands only where the words and files come to a refusal of that status; and then only that status stands,
-- or 6 where the shelf's count rose, or 7 where the link was asked and its count rose, or want of memory.
pub record RefusalsAreExact : Type 0 where
  pub only : (o : Outcome) (asked : Bool) (before after : Outside) (r : Refusal) → IsTold o
      → Stands o asked before after (status_of r) → (s : Refusal) × (o ≡ refusal s) × (status_of s ≡ status_of r)
  pub all : (o : Outcome) (asked : Bool) (before after : Outside) (r : Refusal) (status : ℕ) → o ≡ refusal r
      → Stands o asked before after status
      → (status ≡ status_of r) ⊎ ((status ≡ 6) × ShelfRose before after) ⊎ ((status ≡ 7) × IsTrue asked × LinkRose before after)
      ⊎ (status ≡ 8)

-- Where there is an answer to write and no count rises, the status is 0, or want of memory.
pub record AnswersAreComplete : Type 0 where
  pub texts_written : (o : Outcome) (asked : Bool) (before after : Outside) (status : ℕ) (text lines : List ℕ)
      → o ≡ texts text lines
      → (ShelfRose before after → ⊥) → (LinkRose before after → ⊥) → (SinkRose before after → ⊥)
      → Stands o asked before after status → (status ≡ 0) ⊎ (status ≡ 8)
  pub files_written : (o : Outcome) (asked : Bool) (before after : Outside) (status : ℕ)
      (zero_name zero_text one_name one_text : List ℕ) → o ≡ writes zero_name zero_text one_name one_text
      → (ShelfRose before after → ⊥) → (LinkRose before after → ⊥) → Stands o asked before after status → (status ≡ 0) ⊎ (status ≡ 8)

-- Status 6 stands only where the shelf was asked and its count rose.
pub record ShelfFaultsAreExact : Type 0 where
  pub only : (o : Outcome) (asked : Bool) (before after : Outside) → Stands o asked before after 6
      → IsTrue (asks_shelf o) × ShelfRose before after

-- Status 10 stands only where the sinks were written, and the count of out or of err rose.
pub record SinkFaultsAreExact : Type 0 where
  pub only : (o : Outcome) (asked : Bool) (before after : Outside) → Stands o asked before after 10
      → IsTrue (asks_sinks o) × SinkRose before after

-- Status 7 stands only where the link was asked and its count rose.
pub record WalkFaultsAreExact : Type 0 where
  pub only : (o : Outcome) (asked : Bool) (before after : Outside) → Stands o asked before after 7
      → IsTrue asked × LinkRose before after

-- Where two share files go together and the walk is the one of its definition: with an answer, `run` comes to its texts; with a
-- cap, to that refusal; and the walk has no other end.
pub record TrueRunsAreExact : Type 0 where
  pub answer : (settings : RunSettings) (both : Both) (levels passed : ℕ) (heavy : List Heavy)
      → walk (settings_for (rules_asked settings) both.0.width) (batch_for both) ≡ done levels passed heavy
      → run_files_outcome (Some walk) settings (Ok both)
      ≡ texts (answer_text heavy) (refused_for both ++ sealed_line (length (batch_for both)) passed levels)
  pub cap : (settings : RunSettings) (both : Both) (level wanted : ℕ)
      → walk (settings_for (rules_asked settings) both.0.width) (batch_for both) ≡ capped level wanted
      → run_files_outcome (Some walk) settings (Ok both) ≡ refusal (Walk (Cap level wanted))
  pub no_other : (settings : Settings) (batch : List Report) → IsOwnEnd (walk settings batch)

-- ---- searches

-- how a search over strings ends, by the prefixes that at least the threshold of them begin with
abbrev pub strings_end : FindRules → List (List Bool) → End
strings_end rules strings =
    ending rules.cap (λ level. heavy level strings rules.threshold) (λ level. length strings) (8 * rules.width - 1) 1

-- Over a link that was true and idle, what `find` and `make` come to is said by the strings alone: no share, report or key is
-- named. The end is at the first level that is the last of all, or has no frequent prefix, or has too many of them; it is an
-- answer at the first two, and the cap at the third.
pub record TrueSearchesAreExact : Type 0 where
  pub ends : (text : Text) (rules : FindRules) (strings : List (List Bool)) → 1 ≤ rules.width → 1 ≤ rules.threshold
      → length strings < modulus → All (λ s. length s ≡ 8 * rules.width) strings
      → search_outcome text (Some walk) rules (Ok strings) ≡ search_answered (ended text (length strings) (strings_end rules strings))
  pub once : (rules : FindRules) (strings : List (List Bool)) → 1 ≤ rules.width
      → EndsOnce (8 * rules.width) rules.cap (λ level. heavy level strings rules.threshold) (λ level. length strings)
      (strings_end rules strings)
