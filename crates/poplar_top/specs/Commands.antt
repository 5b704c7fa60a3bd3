-- Which command the words name, and what it comes to, sends and finds.
use Rattle.std.specs.Prelude.{◌≡◌, ◌≢◌, ℕ, Bool, false, List, Option, codes}
use Rattle.std.specs.Bool.{if◌then◌else◌}
use Rattle.shelf_io.specs.Files.{Files}
use Rattle.shelf_io.specs.Seen.{LinkSeen, Outside}
use Rattle.file_run.specs.Answers.{Ending}
use Rattle.command_words.specs.Reading.{is_first}
use Rattle.command_words.specs.Settings.{run_words, find_words, make_words}
use Rattle.poplar_top.specs.Outcomes.{Outcome, eval_outcome, gen_outcome}
use Rattle.poplar_top.specs.RunOutcomes.{run_outcome, run_walks}
use Rattle.poplar_top.specs.RunLinks.{RunSends, RunFinds}
use Rattle.poplar_top.specs.FindOutcomes.{find_outcome, find_walks, make_outcome, make_walks}
use Rattle.poplar_top.specs.FindLinks.{FindSends, FindFinds, MakeSends, MakeFinds}

pub data Command : Type 0 where
  generates : Command
  runs : Command
  finds : Command
  makes : Command
  -- every other first word is read as `eval`, and is usage where it is none
  evaluates : Command

-- the command that the first word names
abbrev pub command_of : List (List ℕ) → Command
command_of words =
    if is_first (codes "gen") words then generates
    else if is_first (codes "run") words then runs
    else if is_first (codes "find") words then finds
    else if is_first (codes "make") words then makes
    else evaluates

-- what the words and the told files come to, where a walk ends this way; with no way, the link does not tell
abbrev pub outcome_of : Command → Option Ending → List (List ℕ) → Option Files → Outcome
outcome_of generates ending words files = gen_outcome words files
outcome_of runs ending words files = run_outcome ending words files
outcome_of finds ending words files = find_outcome ending words files
outcome_of makes ending words files = make_outcome ending words
outcome_of evaluates ending words files = eval_outcome words files

abbrev pub outcome : Option Ending → List (List ℕ) → Option Files → Outcome
outcome ending words files = outcome_of (command_of words) ending words files

-- whether the words and the told files come to a walk; where the shelf does not tell, `run` and `find` may
abbrev pub walks_of : Command → List (List ℕ) → Option Files → Bool
walks_of generates words files = false
walks_of runs words files = run_walks (run_words words) files
walks_of finds words files = find_walks (find_words words) files
walks_of makes words files = make_walks (make_words words)
walks_of evaluates words files = false

abbrev pub walks : List (List ℕ) → Option Files → Bool
walks words files = walks_of (command_of words) words files

-- what passes on the link, by the status: only in a walk does anything pass
abbrev pub sends_of : Command → List (List ℕ) → Option Files → LinkSeen → LinkSeen → ℕ → Type 0
sends_of generates words files before after status = after ≡ before
sends_of runs words files before after status = RunSends (run_words words) files before after status
sends_of finds words files before after status = FindSends (find_words words) files before after status
sends_of makes words files before after status = MakeSends (make_words words) before after status
sends_of evaluates words files before after status = after ≡ before

-- what the shelf holds stays, but in `gen`; `make` does not ask it
abbrev pub kept_of : Command → Outside → Outside → ℕ → Type 0
kept_of generates before after status = Unit {0}
kept_of runs before after status = after.shelf.files ≡ before.shelf.files
kept_of finds before after status = after.shelf.files ≡ before.shelf.files
kept_of makes before after status = (after.shelf ≡ before.shelf) × (status ≢ 6)
kept_of evaluates before after status = after.shelf.files ≡ before.shelf.files

-- what a walk prints: in `run` of honest reports, in `find` and `make` always, since they make the reports themselves
abbrev pub finds_of : Command → List (List ℕ) → Outside → Outside → ℕ → Type 0
finds_of generates words before after status = Unit {0}
finds_of runs words before after status = RunFinds (run_words words) before after status
finds_of finds words before after status = FindFinds (find_words words) before after status
finds_of makes words before after status = MakeFinds (make_words words) before after status
finds_of evaluates words before after status = Unit {0}
