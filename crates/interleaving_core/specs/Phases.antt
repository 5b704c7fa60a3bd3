-- What a phase leads to.
use Rattle.std.specs.Prelude.{◌≡◌, ℕ, suc, ◌<◌, List, [], length, Option, Some, None}
use Rattle.definitions.specs.declared.Side.TheVariants.{Zero, One}
use Rattle.definitions.specs.Field.{add}
use Rattle.definitions.specs.Sketch.{Sums}
use Rattle.walk_definitions.specs.Heard.{paired}
use Rattle.core_definitions.specs.Phase as phase
use Rattle.core_definitions.specs.Phase.{CoreSettings, CacheEntry}
use Rattle.core_definitions.specs.System as system
use Rattle.core_definitions.specs.System.{walking, begun, carried_totals, passed_by, run, WalkKept, EndKept}
use Rattle.half_events.specs.Halves.{half_seen}
use Rattle.half_events.specs.Stages.{StageSeen, phase_at}
use Rattle.interleaving_core.specs.declared.events.Event.{Event}
use Rattle.interleaving_core.specs.declared.phases.Carried.{Carried}
use Rattle.interleaving_core.specs.declared.phases.Found.{Found}
use Rattle.interleaving_core.specs.declared.phases.Found.TheVariants.{Live, Added}
use Rattle.interleaving_core.specs.declared.sides.Sides.{Sides}
use Rattle.interleaving_core.specs.Events.{events_of}
use Rattle.interleaving_core.specs.Systems.{seen}
use Rattle.interleaving_core.specs.Walks.{begun_at}

abbrev pub sums_in : phase.Values → List Sums
sums_in (phase.of_sketch ss) = ss
sums_in (phase.of_totals ts) = []

abbrev pub totals_in : phase.Values → List ℕ
totals_in (phase.of_sketch ss) = []
totals_in (phase.of_totals ts) = ts

-- what both sides found is what the definitions carry
abbrev pub IsFound : CoreSettings → StageSeen → Sides → Found → Type 0
IsFound core s sides (Live live) = (s.kind ≡ phase.sketching)
    × (live.items ≡ passed_by s.batch (suc s.past) s.live (sums_in (half_seen core (phase_at s) Zero sides.zero).values) (sums_in (half_seen core (phase_at s) One sides.one).values))
IsFound core s sides (Added totals) = (s.kind ≡ phase.totalling) × (length totals.items ≡ length s.candidates)
    × (totals.items ≡ paired add (totals_in (half_seen core (phase_at s) Zero sides.zero).values) (totals_in (half_seen core (phase_at s) One sides.one).values))

-- the system is walking, or has its end, and its part of the fact that every event keeps holds
abbrev pub IsCarriedOn : CoreSettings → system.System → Type 0
IsCarriedOn core (system.collecting log0 log1) = ⊥
IsCarriedOn core (system.walking w) = WalkKept core w
IsCarriedOn core (system.ended w end) = EndKept core w end

-- what a carried phase leads to
abbrev pub carried_to : CoreSettings → StageSeen → Found → List CacheEntry → List CacheEntry → system.System
carried_to core s (Live live) cache0 cache1 = walking (begun core s.batch s.past phase.totalling live.items s.candidates cache0 cache1 s.recorded)
carried_to core s (Added totals) cache0 cache1 = carried_totals core (begun_at core s cache0 cache1) totals.items

-- totals are as many as the candidates
abbrev pub HasCount : StageSeen → Found → Type 0
HasCount s (Live live) = s.kind ≡ phase.sketching
HasCount s (Added totals) = (s.kind ≡ phase.totalling) × (length totals.items ≡ length s.candidates)

-- a phase was carried: the system is seen as what it leads to, over the events that are left
pub record IsCarried (core : CoreSettings) (s : StageSeen) (cache0 cache1 : List CacheEntry) (old new : List Event) (c : Carried) : Type 0 where
  pub seen_as : seen (run core (events_of old) (walking (begun_at core s cache0 cache1)))
      ≡ seen (run core (events_of new) (carried_to core s c.found c.zero.items c.one.items))
  pub kept : IsCarriedOn core (carried_to core s c.found c.zero.items c.one.items)
  pub counts : HasCount s c.found
  pub fewer : length new < length old

-- the events end in the phase, and so is the system seen
abbrev pub IsCut : CoreSettings → StageSeen → List CacheEntry → List CacheEntry → List Event → Type 0
IsCut core s cache0 cache1 old = seen (run core (events_of old) (walking (begun_at core s cache0 cache1))) ≡ seen (walking (begun_at core s cache0 cache1))

-- what a phase leads to
abbrev pub IsPhaseEnd : CoreSettings → StageSeen → List CacheEntry → List CacheEntry → List Event → List Event → Option Carried → Type 0
IsPhaseEnd core s cache0 cache1 old new None = IsCut core s cache0 cache1 old
IsPhaseEnd core s cache0 cache1 old new (Some carried) = IsCarried core s cache0 cache1 old new carried
