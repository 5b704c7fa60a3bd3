-- The promise of a run over two share files, one field for each sentence of it.
use Rattle.std.specs.Prelude.{◌≡◌, ℕ, List, Result, IfOk, IfErr, IfSome}
use Rattle.walk_definitions.specs.Walk.{walk}
use Rattle.shelf_io.specs.Seen.{Sources, IsTrueAndIdle}
use Rattle.file_run.specs.declared.errors.RunError.{RunError}
use Rattle.file_run.specs.declared.rules.RunRules.{RunRules}
use Rattle.file_run.specs.declared.texts.RunTexts.{RunTexts}
use Rattle.file_run.specs.Answers.{run_answer, Answered, Begins, FindsHeavy, HasShelfCause, HasLinkCause, IsOfTheWalk}
use Rattle.file_run.specs.Beginnings.{begun}
use Rattle.file_run.specs.Hearings.{heard_ending}
use Rattle.file_run.specs.Sendings.{SentBy, IsUnsent}

-- a run over the files of two names, between what the shelf and the link told before and after
pub record RunKeeps (zero one : List ℕ) (rules : RunRules) (before after : Sources) (result : Result RunTexts RunError)
    : Type 0 where
  -- ON EVERY SHELF AND LINK. The shelf holds what it held.
  pub kept : after.shelf.files ≡ before.shelf.files
  -- No count of faults falls, and the shelf, or the link, is at fault only where its count rose.
  pub shelf : HasShelfCause before.shelf.faults after.shelf.faults result
  pub link : HasLinkCause before.link.faults after.link.faults result
  -- Nothing is sent where a file is refused or the widths differ.
  pub unsent : IsUnsent before.link.talk after.link.talk result
  -- WHERE THE SHELF TELLS ITS FILES. A walk is begun only where they go together, and an error before it is theirs.
  pub begins : IfSome before.shelf.files (λ held. Begins result (begun zero one held))
  -- Where the link tells too, the texts or the error are those of what both sides received, the outside's faults apart.
  pub heard : IfSome before.shelf.files (λ held. IfSome (heard_ending before.link.talk after.link.talk) (λ ending.
      Answered result (run_answer ending rules (begun zero one held))))
  -- Just the walk's messages were sent.
  pub sent : IfSome before.shelf.files (λ held. IfOk (begun zero one held) (λ both.
      SentBy rules both before.link after.link result))
  -- OVER A LINK THAT WAS TRUE AND IDLE. The walk is its definition's,
  pub truly : IsTrueAndIdle before.link → IfSome before.shelf.files (λ held.
      Answered result (run_answer walk rules (begun zero one held)))
  -- where the reports that pass the first level were generated it finds the frequent strings,
  pub honest : IsTrueAndIdle before.link → IfSome before.shelf.files (λ held. IfOk (begun zero one held) (λ both.
      IfOk result (FindsHeavy rules both)))
  -- and on every shelf neither side gets a message that it does not expect, nor do the sums differ.
  pub agreed : IsTrueAndIdle before.link → IfErr result IsOfTheWalk
