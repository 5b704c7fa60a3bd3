-- What the two sides of a link heard from one time to another.
use Rattle.std.specs.Prelude.{ℕ, List, Option, None, Some, length, drop}
use Rattle.definitions.specs.declared.Side.{Side}
use Rattle.definitions.specs.declared.Side.TheVariants.{Zero, One}
use Rattle.shelf_io.specs.Talks.{Talk, at}
use Rattle.walk_definitions.specs.Reports.{Report}
use Rattle.walk_definitions.specs.Walk.{Settings}
use Rattle.walk_definitions.specs.Heard.{Heard, heard}
use Rattle.file_run.specs.Answers.{Ending}

-- the bytes that a side received between the two times
abbrev pub got : Side → Talk → Talk → List ℕ
got side before now = drop (length (at side before.received)) (at side now.received)

-- the walk that was heard in these bytes
abbrev pub heard_between : Talk → Talk → Settings → List Report → Heard
heard_between before now settings reports = heard settings reports (got Zero before now) (got One before now)

-- how a walk ends of what was heard, where the link tells
abbrev pub heard_ending : Option Talk → Option Talk → Option Ending
heard_ending None now = None
heard_ending (Some before) None = None
heard_ending (Some before) (Some now) = Some (λ settings reports. (heard_between before now settings reports).end)
