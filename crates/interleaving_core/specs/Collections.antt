-- What collecting leads to.
use Rattle.std.specs.Prelude.{◌≡◌, ◌+◌, ◌<◌, ◌≤◌, List, length}
use Rattle.std.specs.List.{AllByRecursion}
use Rattle.walk_definitions.specs.Reports.{Report}
use Rattle.core_definitions.specs.Phase.{CoreSettings}
use Rattle.core_definitions.specs.System as system
use Rattle.core_definitions.specs.System.{collecting, run, first_system, walking, sealed}
use Rattle.interleaving_core.specs.declared.events.Event.{Event}
use Rattle.interleaving_core.specs.Events.{events_of, uploads_in, HasLevels}
use Rattle.interleaving_core.specs.Turns.{HaveLevels}

-- the batch was made: the system walks over it, its shares have their levels, and it is no larger than there were uploads
pub record IsSealed (core : CoreSettings) (old new : List Event) (batch : List Report) : Type 0 where
  pub ran : run core (events_of old) first_system ≡ run core (events_of new) (walking (sealed core batch))
  pub levels : HaveLevels core batch
  pub few : length batch ≤ uploads_in old
  pub fewer : length new < length old

-- the events so far led to these logs, with these events left
pub record HasCollected (core : CoreSettings) (old : List Event) (log0 log1 : List system.Entry) (events : List Event) : Type 0 where
  pub ran : run core (events_of old) first_system ≡ run core (events_of events) (collecting log0 log1)
  pub levels0 : AllByRecursion (λ e. length e.share.levels ≡ core.walk.bits) log0
  pub levels1 : AllByRecursion (λ e. length e.share.levels ≡ core.walk.bits) log1
  pub left : AllByRecursion (HasLevels core.walk.bits) events
  pub few : length log0 + uploads_in events ≤ uploads_in old
  pub fewer : length events ≤ length old
