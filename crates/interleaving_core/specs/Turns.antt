-- A walk from phase to phase.
use Rattle.std.specs.Prelude.{◌≡◌, ◌*◌, ◌<◌, ◌≤◌, ◌^◌, List, length, map}
use Rattle.std.specs.List.{All}
use Rattle.definitions.specs.declared.Side.{Side}
use Rattle.walk_definitions.specs.Reports.{Report, held}
use Rattle.core_definitions.specs.Phase.{CoreSettings}
use Rattle.core_definitions.specs.System as system
use Rattle.core_definitions.specs.System.{Walking, walking, run, WalkKept}
use Rattle.interleaving_core.specs.declared.events.Event.{Event}
use Rattle.interleaving_core.specs.declared.running.Turn.{Turn}
use Rattle.interleaving_core.specs.declared.running.Turn.TheVariants.{Further, Last}
use Rattle.interleaving_core.specs.declared.running.Walker.{Walker}
use Rattle.interleaving_core.specs.declared.walks.Walked.{Walked}
use Rattle.interleaving_core.specs.Events.{events_of}
use Rattle.interleaving_core.specs.Systems.{seen}
use Rattle.interleaving_core.specs.Walks.{stage_of, begun_at}

abbrev pub begun_of : CoreSettings → Walker → Walking
begun_of core w = begun_at core (stage_of w.walked) w.zero.items w.one.items

-- the shares of a batch have their levels
abbrev pub HaveLevels : CoreSettings → List Report → Type 0
HaveLevels core batch = (side : Side) → All (λ share. length share.levels ≡ core.walk.bits) (map (λ r. held r side) batch)

-- a walk that these settings lead to, over a batch that is not too large
pub record IsFit (core : CoreSettings) (w : Walked) : Type 0 where
  pub bits_are : w.frontier.bits ≡ core.walk.bits
  pub cap_is : w.frontier.cap ≡ core.walk.cap
  pub some_level : 1 ≤ w.frontier.level
  pub levels : HaveLevels core w.batch
  pub small : length w.batch * core.walk.cap < 2 ^ 31

-- it is also a walk of the definitions, at the beginning of a phase
pub record IsReady (core : CoreSettings) (w : Walker) : Type 0 where
  pub fit : IsFit core w.walked
  pub kept : WalkKept core (begun_of core w)

-- over any events, a system is seen as what comes of the turn: it goes on from the next phase, or stays as it is
abbrev pub LeadsTo : CoreSettings → system.System → Turn → Type 0
LeadsTo core s (Further w) = IsReady core w × (s ≡ walking (begun_of core w))
LeadsTo core s (Last last) = (events : List system.Event) → seen (run core events s) ≡ last

-- a phase led from a walk over some events to a turn over those that are left
abbrev pub IsTurn : CoreSettings → Walker → List Event → List Event → Turn → Type 0
IsTurn core w old new (Further next) = IsReady core next × (length new < length old)
    × (seen (run core (events_of old) (walking (begun_of core w))) ≡ seen (run core (events_of new) (walking (begun_of core next))))
IsTurn core w old new (Last last) = seen (run core (events_of old) (walking (begun_of core w))) ≡ last

-- the phases so far led from one walk to another, with these events left
pub record HasTurned (core : CoreSettings) (first : Walking) (old : List Event) (w : Walker) (events : List Event) : Type 0 where
  pub ready : IsReady core w
  pub fewer : length events ≤ length old
  pub ran : seen (run core (events_of old) (walking first)) ≡ seen (run core (events_of events) (walking (begun_of core w)))
