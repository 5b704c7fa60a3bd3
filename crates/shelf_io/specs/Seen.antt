-- What the outside tells at one time: a record for each object of the traits, and one for all that a command is given. A promise
-- over the outside is a relation between what was told before and what is told after.
use Rattle.std.specs.Prelude.{ℕ, Bool, List, Option, None, Some, IsTrue}
use Rattle.shelf_io.specs.Files.{Files}
use Rattle.shelf_io.specs.Talks.{Talk, IsIdle}
use Rattle.shelf_io.specs.declared.link.Link as links
use Rattle.shelf_io.specs.declared.shelf.Shelf as shelves
use Rattle.shelf_io.specs.declared.sink.Sink as sinks

-- a shelf tells what it holds, and how often it has failed
pub record ShelfSeen : Type 0 where
  pub files : Option Files
  pub faults : ℕ

abbrev pub shelf_seen : {H : Type 0} → shelves.Ghosts H → H → ShelfSeen
shelf_seen shelf h = record { files = shelf.files h; faults = shelf.faults h }

-- a sink tells the bytes that it took, and how often it has failed
pub record SinkSeen : Type 0 where
  pub taken : Option (List ℕ)
  pub faults : ℕ

abbrev pub sink_seen : {K : Type 0} → sinks.Ghosts K → K → SinkSeen
sink_seen sink k = record { taken = sink.taken k; faults = sink.faults k }

-- a link tells what passed on it, whether it is true, and how often it has failed
pub record LinkSeen : Type 0 where
  pub talk : Option Talk
  pub truth : Bool
  pub faults : ℕ

abbrev pub link_seen : {L : Type 0} → links.Ghosts L → L → LinkSeen
link_seen link l = record { talk = link.talk l; truth = link.is_true l; faults = link.faults l }

-- a link tells that it is true, it tells what passed, and nothing waits
abbrev pub IsReady : Bool → Option Talk → Type 0
IsReady truth None = ⊥
IsReady truth (Some talk) = IsTrue truth × IsIdle talk

-- the same of the link that was seen
abbrev pub IsTrueAndIdle : LinkSeen → Type 0
IsTrueAndIdle link = IsReady link.truth link.talk

-- ---- what a command is given

-- a shelf to read from, and a link to walk over
pub record Sources : Type 0 where
  pub shelf : ShelfSeen
  pub link : LinkSeen

abbrev pub sources : {H L : Type 0} → shelves.Ghosts H → links.Ghosts L → H → L → Sources
sources H L shelf link = record { shelf = shelf_seen H shelf; link = link_seen L link }

-- a shelf, both sinks and a link
pub record Outside : Type 0 where
  pub shelf : ShelfSeen
  pub out : SinkSeen
  pub err : SinkSeen
  pub link : LinkSeen

abbrev pub outside : {H K E L : Type 0} → shelves.Ghosts H → sinks.Ghosts K → sinks.Ghosts E → links.Ghosts L → H → K → E → L → Outside
outside H K E L shelf out err link = record { shelf = shelf_seen H shelf; out = sink_seen K out; err = sink_seen E err; link = link_seen L link }

-- the same for a command that gets no link, whatever link stands there
abbrev pub outside_but_link : {H K E : Type 0} → shelves.Ghosts H → sinks.Ghosts K → sinks.Ghosts E → H → K → E → LinkSeen → Outside
outside_but_link H K E shelf out err link = record { shelf = shelf_seen H shelf; out = sink_seen K out; err = sink_seen E err; link = link }

-- and for one that gets neither out nor a link
abbrev pub shelf_and_err : {H E : Type 0} → shelves.Ghosts H → sinks.Ghosts E → H → E → SinkSeen → LinkSeen → Outside
shelf_and_err H E shelf err out link = record { shelf = shelf_seen H shelf; out = out; err = sink_seen E err; link = link }

-- the shelf and the link of all
abbrev pub sources_of : Outside → Sources
sources_of o = record { shelf = o.shelf; link = o.link }
