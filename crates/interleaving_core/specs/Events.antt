-- The program's events as those of the definitions.
use Rattle.std.specs.Prelude.{◌≡◌, ℕ, ◌+◌, List, [], ◌∷◌, map, length}
use Rattle.core_definitions.specs.Phase.{claim, abandon, fill, evict, post, sweep}
use Rattle.core_definitions.specs.System as system
use Rattle.interleaving_core.specs.declared.events.Event.{Event}
use Rattle.interleaving_core.specs.declared.events.Event.TheVariants.{Upload, Seal, Claim, Abandon, Fill, Evict, Post, Sweep, Carry}

abbrev pub event_of : Event → system.Event
event_of (Upload side pass share) = system.upload side pass share
event_of Seal = system.seal
event_of (Claim side worker) = system.of_half side (claim worker)
event_of (Abandon side worker) = system.of_half side (abandon worker)
event_of (Fill side report prefix) = system.of_half side (fill report prefix)
event_of (Evict side report prefix) = system.of_half side (evict report prefix)
event_of (Post side worker) = system.of_half side (post worker)
event_of (Sweep side) = system.of_half side sweep
event_of Carry = system.carry

abbrev pub events_of : List Event → List system.Event
events_of events = map event_of events

-- the event is of neither side's phase
abbrev pub IsOfNoSide : Event → Type 0
IsOfNoSide (Upload side pass share) = Unit {0}
IsOfNoSide Seal = Unit {0}
IsOfNoSide (Claim side worker) = ⊥
IsOfNoSide (Abandon side worker) = ⊥
IsOfNoSide (Fill side report prefix) = ⊥
IsOfNoSide (Evict side report prefix) = ⊥
IsOfNoSide (Post side worker) = ⊥
IsOfNoSide (Sweep side) = ⊥
IsOfNoSide Carry = Unit {0}

-- a share that is uploaded has so many levels
abbrev pub HasLevels : ℕ → Event → Type 0
HasLevels bits (Upload side pass share) = length share.levels ≡ bits
HasLevels bits Seal = Unit {0}
HasLevels bits (Claim side worker) = Unit {0}
HasLevels bits (Abandon side worker) = Unit {0}
HasLevels bits (Fill side report prefix) = Unit {0}
HasLevels bits (Evict side report prefix) = Unit {0}
HasLevels bits (Post side worker) = Unit {0}
HasLevels bits (Sweep side) = Unit {0}
HasLevels bits Carry = Unit {0}

-- how many uploads an event is
abbrev pub one_upload : Event → ℕ
one_upload (Upload side pass share) = 1
one_upload Seal = 0
one_upload (Claim side worker) = 0
one_upload (Abandon side worker) = 0
one_upload (Fill side report prefix) = 0
one_upload (Evict side report prefix) = 0
one_upload (Post side worker) = 0
one_upload (Sweep side) = 0
one_upload Carry = 0

abbrev pub uploads_in : List Event → ℕ
uploads_in [] = 0
uploads_in (event ∷ events) = one_upload event + uploads_in events
