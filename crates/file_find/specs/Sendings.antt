-- What a search sends.
use Rattle.std.specs.Prelude.{◌≡◌, Bool, List, Option, Result, Ok, Err}
use Rattle.shelf_io.specs.Talks.{Talk}
use Rattle.shelf_io.specs.Seen.{LinkSeen}
use Rattle.pair_run.specs.declared.answers.PairError.TheVariants.{Cap, Link, PeerMessage, Views, Memory as NoMemory}
use Rattle.file_run.specs.declared.texts.RunTexts.{RunTexts}
use Rattle.file_run.specs.Sendings.{SentWhole, SentFront}
use Rattle.file_find.specs.declared.errors.FindError.{FindError}
use Rattle.file_find.specs.declared.errors.FindError.TheVariants.{Strings, Walk, Memory}
use Rattle.file_find.specs.declared.rules.FindRules.{FindRules}
use Rattle.file_find.specs.Walks.{settings_for, reports_for}

-- What was sent, by the answer, where these are the strings: just the messages of what was heard where the walk came to its end, on
-- a true link those of the walk; where it came to no end, on a true link the first of them.
abbrev pub SentBy : FindRules → List (List Bool) → LinkSeen → LinkSeen → Result RunTexts FindError → Type 0
SentBy rules strings before after (Ok texts) = SentWhole (settings_for rules) (reports_for rules strings) before after
SentBy rules strings before after (Err (Strings e)) = after.talk ≡ before.talk
SentBy rules strings before after (Err (Walk (Cap level wanted))) = SentWhole (settings_for rules) (reports_for rules strings) before after
SentBy rules strings before after (Err (Walk (PeerMessage level kind at))) = SentWhole (settings_for rules) (reports_for rules strings) before after
SentBy rules strings before after (Err (Walk (Views level kind place left right))) =
    SentWhole (settings_for rules) (reports_for rules strings) before after
SentBy rules strings before after (Err (Walk Link)) = SentFront (settings_for rules) (reports_for rules strings) before after
SentBy rules strings before after (Err (Walk NoMemory)) = SentFront (settings_for rules) (reports_for rules strings) before after
SentBy rules strings before after (Err Memory) = SentFront (settings_for rules) (reports_for rules strings) before after

-- what passed on the link is as before where the strings are refused
abbrev pub IsUnsent : Option Talk → Option Talk → Result RunTexts FindError → Type 0
IsUnsent before now (Ok texts) = Unit {0}
IsUnsent before now (Err (Strings e)) = now ≡ before
IsUnsent before now (Err (Walk e)) = Unit {0}
IsUnsent before now (Err Memory) = Unit {0}
