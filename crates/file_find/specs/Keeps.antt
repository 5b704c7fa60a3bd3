-- The promises of `find` and of `make`, one field for each sentence.
use Rattle.std.specs.Prelude.{◌≡◌, ℕ, Bool, List, Result, Ok, IfOk, IfErr, IfSome}
use Rattle.shelf_io.specs.Seen.{LinkSeen, Sources, IsTrueAndIdle}
use Rattle.walk_definitions.specs.Walk.{walk}
use Rattle.answer_text.specs.AnswerText.{answer_text}
use Rattle.file_gen.specs.Answers.{Answer as Strings}
use Rattle.file_run.specs.Hearings.{heard_ending}
use Rattle.file_run.specs.declared.texts.RunTexts.{RunTexts}
use Rattle.file_find.specs.declared.errors.FindError.{FindError}
use Rattle.file_find.specs.declared.rules.FindRules.{FindRules}
use Rattle.file_find.specs.Answers.{Text, find_answer, Answered, Begins, Finds, IsOfTheWalk, IsAgreed, IsWithoutFile, HasShelfCause, HasLinkCause}
use Rattle.file_find.specs.Sendings.{SentBy, IsUnsent}
use Rattle.file_find.specs.Texts.{summary_text}
use Rattle.file_find.specs.Walks.{file_strings, workload_strings}

-- a search over what these strings are, between what the link told before and after
pub record WalksOver (text : Text) (rules : FindRules) (found : Strings) (before after : LinkSeen) (result : Result RunTexts FindError)
    : Type 0 where
  -- A walk is begun only where there are strings, and an error before it is theirs.
  pub begins : Begins result found
  -- Where the link tells, the texts or the error are those of what both sides received, the outside's faults apart.
  pub heard : IfSome (heard_ending before.talk after.talk) (λ ending. Answered result (find_answer text ending rules found))
  -- Just the walk's messages were sent.
  pub sent : IfOk found (λ strings. SentBy rules strings before after result)
  -- OVER A LINK THAT WAS TRUE AND IDLE. The walk is its definition's,
  pub truly : IsTrueAndIdle before → Answered result (find_answer text walk rules found)
  -- it finds exactly the frequent strings, or stops at the first level that has too many.
  pub finds : IsTrueAndIdle before → IfOk found (λ strings. Finds text rules strings result)

-- `find` over the strings file of a name
pub record FindKeeps (name : List ℕ) (rules : FindRules) (before after : Sources) (result : Result RunTexts FindError) : Type 0 where
  -- ON EVERY SHELF AND LINK. The shelf holds what it held.
  pub kept : after.shelf.files ≡ before.shelf.files
  -- No count of faults falls, and the shelf, or the link, is at fault only where its count rose.
  pub shelf : HasShelfCause before.shelf.faults after.shelf.faults result
  pub link : HasLinkCause before.link.faults after.link.faults result
  -- Nothing is sent where the strings are refused.
  pub unsent : IsUnsent before.link.talk after.link.talk result
  -- Over a link that was true and idle neither side gets a message that it does not expect, nor do the sums differ.
  pub agreed : IsTrueAndIdle before.link → IfErr result IsAgreed
  -- WHERE THE SHELF TELLS ITS FILES. The search is over the strings of the file.
  pub told : IfSome before.shelf.files (λ held. WalksOver answer_text rules (file_strings name rules held) before.link after.link result)

-- `make` over the workload of so many reports
pub record MakeKeeps (reports : ℕ) (rules : FindRules) (before after : LinkSeen) (result : Result RunTexts FindError) : Type 0 where
  -- No file is named in an error.
  pub own : IfErr result IsWithoutFile
  -- The link's count of faults does not fall, and the link is at fault only where it rose.
  pub link : HasLinkCause before.faults after.faults result
  -- Nothing is sent where the strings are refused.
  pub unsent : IsUnsent before.talk after.talk result
  -- Over a link that was true and idle neither side gets a message that it does not expect, nor do the sums differ.
  pub agreed : IsTrueAndIdle before → IfErr result IsAgreed
  -- The search is over the strings of the workload.
  pub told : WalksOver summary_text rules (workload_strings reports rules) before after result

-- the search over strings that there are, which both rest on
pub record TellsKeeps (text : Text) (rules : FindRules) (strings : List (List Bool)) (before after : LinkSeen) (result : Result RunTexts FindError)
    : Type 0 where
  pub own : IfErr result IsOfTheWalk
  pub link : HasLinkCause before.faults after.faults result
  pub agreed : IsTrueAndIdle before → IfErr result IsAgreed
  pub told : WalksOver text rules (Ok strings) before after result
