-- The promise of a command, one field for each sentence of it, between what the outside told before and after.
use Rattle.std.specs.Prelude.{◌≢◌, ◌≤◌, ℕ, Bool, List, Some}
use Rattle.walk_definitions.specs.Walk.{walk}
use Rattle.shelf_io.specs.Seen.{IsTrueAndIdle, Outside}
use Rattle.file_run.specs.Hearings.{heard_ending}
use Rattle.poplar_top.specs.Commands.{Command, command_of, outcome_of, walks_of, sends_of, kept_of, finds_of}
use Rattle.poplar_top.specs.Outcomes.{Outcome}
use Rattle.poplar_top.specs.Statuses.{Stands, OutGets, ErrGets, OutFirst, ShelfGets}

-- a status, and what out, err and the shelf have then, are those of an outcome; the link is at fault only where it was asked
pub record Meets (o : Outcome) (asked : Bool) (before after : Outside) (answer : ℕ) : Type 0 where
  pub status : Stands o asked before after answer
  pub out : OutGets o answer before.out.taken after.out.taken
  pub err : ErrGets o answer before.err.taken after.err.taken
  pub order : OutFirst o answer before.out after.out before.err after.err
  pub shelf : ShelfGets o answer before.shelf.files after.shelf.files

-- the count of each object is what it was, or more
pub record IsLater (before after : Outside) : Type 0 where
  pub shelf : before.shelf.faults ≤ after.shelf.faults
  pub out : before.out.faults ≤ after.out.faults
  pub err : before.err.faults ≤ after.err.faults
  pub link : before.link.faults ≤ after.link.faults

pub record KeepsOf (command : Command) (words : List (List ℕ)) (before after : Outside) (status : ℕ) : Type 0 where
  -- ALWAYS. The status, out, err and the shelf are those of what the words and the told files come to, where a walk ends as
  -- both sides heard it in the call.
  pub heard : Meets (outcome_of command (heard_ending before.link.talk after.link.talk) words before.shelf.files)
      (walks_of command words before.shelf.files) before after status
  -- The link got just the messages of the walk.
  pub sends : sends_of command words before.shelf.files before.link after.link status
  -- Only `gen` changes what the shelf holds, and `make` does not ask it.
  pub kept : kept_of command before after status
  -- No count of faults falls.
  pub later : IsLater before after
  -- OVER A LINK THAT WAS TRUE AND IDLE. The walk ends as its definition does,
  pub truly : IsTrueAndIdle before.link → Meets (outcome_of command (Some walk) words before.shelf.files)
      (walks_of command words before.shelf.files) before after status
  -- no message was another than the expected one and no sums differed, told files or not,
  pub agreed : IsTrueAndIdle before.link → status ≢ 9
  -- and the answer is the frequent strings with their counts: in `run` where the reports are honest, in `find` and `make` always.
  pub finds : IsTrueAndIdle before.link → finds_of command words before after status

-- the promise of the command that the first word names
abbrev pub Keeps : List (List ℕ) → Outside → Outside → ℕ → Type 0
Keeps words before after status = KeepsOf (command_of words) words before after status
