-- Both sides within a phase, and what its events lead to.
use Rattle.std.specs.Prelude.{◌≡◌, ℕ, ◌+◌, ◌<◌, ◌≤◌, ◌^◌, Bool, true, false, List, length}
use Rattle.definitions.specs.declared.Side.TheVariants.{Zero, One}
use Rattle.tile_claims.specs.Plans.{tiles_of}
use Rattle.core_definitions.specs.Phase.{CoreSettings}
use Rattle.core_definitions.specs.System as system
use Rattle.core_definitions.specs.System.{Walking, walking, carried, after, run}
use Rattle.phase_state.specs.Logs.{EachOnce}
use Rattle.half_events.specs.Halves.{IsHalf, half_seen}
use Rattle.half_events.specs.Stages.{StageSeen, phase_at}
use Rattle.interleaving_core.specs.declared.events.Event.{Event}
use Rattle.interleaving_core.specs.declared.sides.Sides.{Sides}
use Rattle.interleaving_core.specs.Events.{events_of}

-- the definitions' walk within a phase
abbrev pub walking_at : CoreSettings → StageSeen → Sides → Walking
walking_at core s sides = record {
  batch = s.batch;
  past = s.past;
  kind = s.kind;
  live = s.live;
  candidates = s.candidates;
  half0 = half_seen core (phase_at s) Zero sides.zero;
  half1 = half_seen core (phase_at s) One sides.one;
  recorded = s.recorded;
}

pub record AreSides (core : CoreSettings) (s : StageSeen) (sides : Sides) : Type 0 where
  pub zero : IsHalf core (phase_at s) Zero sides.zero
  pub one : IsHalf core (phase_at s) One sides.one

-- so many more numbers can be drawn on both sides
abbrev pub HasRoom : ℕ → Sides → Type 0
HasRoom more sides = (sides.zero.counter + more < 2 ^ 31) × (sides.one.counter + more < 2 ^ 31)

-- each tile of both sides is posted
abbrev pub AreComplete : Sides → Type 0
AreComplete sides =
    EachOnce (tiles_of sides.zero.state.plan.tiles) sides.zero.state.log × EachOnce (tiles_of sides.one.state.plan.tiles) sides.one.state.log

-- an event within the phase leads from one pair of sides to another
pub record IsStepped (core : CoreSettings) (s : StageSeen) (event : system.Event) (old new : Sides) : Type 0 where
  pub sides : AreSides core s new
  pub counters : (new.zero.counter ≤ old.zero.counter + 1) × (new.one.counter ≤ old.one.counter + 1)
  pub after : system.after core event (walking (walking_at core s old)) ≡ walking (walking_at core s new)

-- what an event does: the phase is carried by it (true), or goes on
abbrev pub IsTaken : CoreSettings → StageSeen → system.Event → Sides → Sides → Bool → Type 0
IsTaken core s event old new true = (event ≡ system.carry) × (new ≡ old) × AreComplete new
IsTaken core s event old new false = IsStepped core s event old new

-- the events so far led from one pair of sides to another, with these events left
pub record HasRun (core : CoreSettings) (s : StageSeen) (first : Sides) (old : List Event) (sides : Sides) (events : List Event) : Type 0 where
  pub sides_are : AreSides core s sides
  pub room : HasRoom (length events) sides
  pub fewer : length events ≤ length old
  pub ran : run core (events_of old) (walking (walking_at core s first)) ≡ run core (events_of events) (walking (walking_at core s sides))

abbrev pub carried_at : CoreSettings → StageSeen → Sides → system.System
carried_at core s sides =
    carried core (walking_at core s sides) (half_seen core (phase_at s) Zero sides.zero).values (half_seen core (phase_at s) One sides.one).values

-- what the events of a phase lead to: the phase is carried (true), or the events end in it
abbrev pub HasEnded : CoreSettings → StageSeen → Sides → List Event → Sides → List Event → Bool → Type 0
HasEnded core s first old sides events true =
    AreSides core s sides × AreComplete sides × (length events < length old)
    × (run core (events_of old) (walking (walking_at core s first)) ≡ run core (events_of events) (carried_at core s sides))
HasEnded core s first old sides events false = run core (events_of old) (walking (walking_at core s first)) ≡ walking (walking_at core s sides)
