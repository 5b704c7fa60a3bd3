-- What a run sends.
use Rattle.std.specs.Prelude.{◌≡◌, List, ◌++◌, Option, None, Some, Result, Ok, Err}
use Rattle.shelf_io.specs.Talks.{Talk}
use Rattle.walk_definitions.specs.Reports.{Report}
use Rattle.walk_definitions.specs.Walk.{Settings}
use Rattle.walk_definitions.specs.Messages.{messages}
use Rattle.shelf_io.specs.Seen.{LinkSeen, IsTrueAndIdle}
use Rattle.pair_run.specs.Talking.{SentMore, SentPart}
use Rattle.pair_run.specs.declared.answers.PairError.TheVariants.{Cap, Link, PeerMessage, Views, Memory as NoMemory}
use Rattle.file_run.specs.declared.errors.RunError.{RunError}
use Rattle.file_run.specs.declared.errors.RunError.TheVariants.{File, Widths, Walk, Memory}
use Rattle.file_run.specs.declared.texts.RunTexts.{RunTexts}
use Rattle.file_run.specs.declared.rules.RunRules.{RunRules}
use Rattle.file_run.specs.Beginnings.{Both, settings_for, batch_for}
use Rattle.file_run.specs.Hearings.{heard_between}

-- the list sent grew by the messages of what was heard
abbrev pub SentHeard : Settings → List Report → Option Talk → Option Talk → Type 0
SentHeard settings reports None now = Unit {0}
SentHeard settings reports (Some before) None = ⊥
SentHeard settings reports (Some before) (Some now) = now.sent ≡ before.sent ++ (heard_between before now settings reports).messages

-- A walk came to its end: the list sent grew by just the messages of what was heard; on a link that was true and idle by those
-- of the walk, and the link is true and idle again.
pub record SentWhole (settings : Settings) (reports : List Report) (before after : LinkSeen) : Type 0 where
  pub heard : SentHeard settings reports before.talk after.talk
  pub truly : IsTrueAndIdle before → IsTrueAndIdle after × SentMore before.talk after.talk (messages settings reports)

-- A walk stopped before its end, or after it for want of memory: on a link that was true and idle the list sent grew by the first
-- of the walk's messages, or all.
abbrev pub SentFront : Settings → List Report → LinkSeen → LinkSeen → Type 0
SentFront settings reports before after = IsTrueAndIdle before → SentPart before.talk after.talk (messages settings reports)

-- what a run sent, by its answer, where the files come to these lists
abbrev pub SentBy : RunRules → Both → LinkSeen → LinkSeen → Result RunTexts RunError → Type 0
SentBy rules both before after (Ok texts) = SentWhole (settings_for rules both.0.width) (batch_for both) before after
SentBy rules both before after (Err (File side e)) = after.talk ≡ before.talk
SentBy rules both before after (Err (Widths zero one)) = after.talk ≡ before.talk
SentBy rules both before after (Err (Walk (Cap level wanted))) = SentWhole (settings_for rules both.0.width) (batch_for both) before after
SentBy rules both before after (Err (Walk (PeerMessage level kind at))) = SentWhole (settings_for rules both.0.width) (batch_for both) before after
SentBy rules both before after (Err (Walk (Views level kind place left right))) =
    SentWhole (settings_for rules both.0.width) (batch_for both) before after
SentBy rules both before after (Err (Walk Link)) = SentFront (settings_for rules both.0.width) (batch_for both) before after
SentBy rules both before after (Err (Walk NoMemory)) = SentFront (settings_for rules both.0.width) (batch_for both) before after
SentBy rules both before after (Err Memory) = SentFront (settings_for rules both.0.width) (batch_for both) before after

-- what passed on the link is as before where no walk was begun
abbrev pub IsUnsent : Option Talk → Option Talk → Result RunTexts RunError → Type 0
IsUnsent before now (Ok texts) = Unit {0}
IsUnsent before now (Err (File side e)) = now ≡ before
IsUnsent before now (Err (Widths zero one)) = now ≡ before
IsUnsent before now (Err (Walk e)) = Unit {0}
IsUnsent before now (Err Memory) = Unit {0}
