-- What passes on the link in `run`, and what it prints of honest reports, by the status.
use Rattle.std.specs.Prelude.{◌≡◌, ◌⊎◌, ℕ, ◌*◌, Bool, List, ◌++◌, Option, None, Some, Result, Ok, Err, length}
use Rattle.shelf_io.specs.Files.{Files}
use Rattle.shelf_io.specs.Texts.{Grew}
use Rattle.walk_definitions.specs.Reports.{Report}
use Rattle.walk_definitions.specs.Walk.{Settings, live_at}
use Rattle.walk_definitions.specs.Heavy.{heavy}
use Rattle.walk_definitions.specs.Laws.{AreGenerated}
use Rattle.answer_text.specs.AnswerText.{answer_text, sealed_line}
use Rattle.shelf_io.specs.Seen.{LinkSeen, Outside}
use Rattle.file_run.specs.declared.errors.RunError.{RunError}
use Rattle.file_run.specs.Beginnings.{Both, settings_for, batch_for, refused_for}
use Rattle.file_run.specs.Sendings.{SentWhole, SentFront}
use Rattle.command_words.specs.Settings.{RunSettings}
use Rattle.poplar_top.specs.RunOutcomes.{rules_asked, files_asked}

-- By the status of a run whose files go together: where the walk came to its end, the link got just its messages; where the link
-- failed or memory was short, a true one got the first of them; where the shelf failed, nothing passed.
pub record WalkSends (settings : Settings) (reports : List Report) (before after : LinkSeen) (status : ℕ) : Type 0 where
  pub whole : (status ≡ 0) ⊎ (status ≡ 5) ⊎ (status ≡ 9) ⊎ (status ≡ 10) → SentWhole settings reports before after
  pub front : (status ≡ 7) ⊎ (status ≡ 8) → SentFront settings reports before after
  pub nothing : status ≡ 6 → after.talk ≡ before.talk

-- nothing passes where a file is refused or the widths differ
abbrev pub FilesSend : RunSettings → Result Both RunError → LinkSeen → LinkSeen → ℕ → Type 0
FilesSend settings (Ok both) before after status =
    WalkSends (settings_for (rules_asked settings) both.0.width) (batch_for both) before after status
FilesSend settings (Err e) before after status = after.talk ≡ before.talk

-- nor where the words give no settings; where the shelf does not tell, not at a status of the files or of the shelf
abbrev pub RunSends : Option RunSettings → Option Files → LinkSeen → LinkSeen → ℕ → Type 0
RunSends None files before after status = after.talk ≡ before.talk
RunSends (Some settings) None before after status = (status ≡ 3) ⊎ (status ≡ 4) ⊎ (status ≡ 6) → after.talk ≡ before.talk
RunSends (Some settings) (Some held) before after status =
    FilesSend settings (files_asked settings held) before after status

-- ---- honest reports

-- On status 0: where every report that passes the first level came from key generation, out got exactly the strings that at least
-- the threshold of them hold, ascending, with their counts, and err the line of the walk's end.
abbrev pub WalkFinds : RunSettings → Both → Outside → Outside → ℕ → Type 0
WalkFinds settings both before after status =
    status ≡ 0 → (strings : List (List Bool))
    → AreGenerated (8 * both.0.width) (live_at (settings_for (rules_asked settings) both.0.width) (batch_for both) 1) strings
    → Grew before.out.taken after.out.taken (answer_text (heavy (8 * both.0.width) strings settings.threshold))
    × ((levels : ℕ) × Grew before.err.taken after.err.taken (refused_for both ++ sealed_line (length (batch_for both)) (length strings) levels))

abbrev pub FilesFind : RunSettings → Result Both RunError → Outside → Outside → ℕ → Type 0
FilesFind settings (Ok both) before after status = WalkFinds settings both before after status
FilesFind settings (Err e) before after status = Unit {0}

abbrev pub FindsIn : RunSettings → Option Files → Outside → Outside → ℕ → Type 0
FindsIn settings None before after status = Unit {0}
FindsIn settings (Some held) before after status = FilesFind settings (files_asked settings held) before after status

abbrev pub RunFinds : Option RunSettings → Outside → Outside → ℕ → Type 0
RunFinds None before after status = Unit {0}
RunFinds (Some settings) before after status = FindsIn settings before.shelf.files before after status
