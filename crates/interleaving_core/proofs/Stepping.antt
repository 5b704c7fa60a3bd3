-- What one event of a phase does, and many.
use Rattle.std.proofs.Common.{◌≡◌, ◌≢◌, ℕ, ◌+◌, ◌≤◌, Bool, true, false, List, ◌∷◌, length, Option, Some, None, refl, sym, ◌∙◌, ap, subst, arith}
use Rattle.std.specs.Prelude.{◌↔◌, IsTrue}
use Rattle.std.proofs.lemmas.Bool.{false≢true}
use Rattle.definitions.specs.declared.Side.{Side}
use Rattle.definitions.specs.declared.Side.TheVariants.{Zero, One}
use Rattle.core_definitions.specs.Phase.{CoreSettings, HalfEvent, half_after, first_unposted}
use Rattle.core_definitions.specs.System as system
use Rattle.core_definitions.specs.System.{Walking, walking, carried, carried_where, after, run, phase_of}
use Rattle.half_events.specs.declared.halves.Half.{Half}
use Rattle.half_events.specs.Halves.{IsHalf, half_seen}
use Rattle.half_events.specs.Stages.{StageSeen, phase_at}
use Rattle.interleaving_core.specs.declared.events.Event.{Event}
use Rattle.interleaving_core.specs.declared.events.Event.TheVariants.{Upload, Seal, Claim, Abandon, Fill, Evict, Post, Sweep, Carry}
use Rattle.interleaving_core.specs.declared.sides.Sides.{Sides}
use Rattle.interleaving_core.specs.Events.{event_of, events_of, IsOfNoSide}
use Rattle.interleaving_core.specs.Sides.{walking_at, AreSides, AreComplete, IsStepped, IsTaken, HasRun, HasEnded, carried_at}
use Rattle.interleaving_core.proofs.Completion.{none-left, all-there}

-- an event of no side's phase but a carry changes nothing
nothing-after : (core : CoreSettings) (event : Event) (w : Walking) → event ≢ Carry → IsOfNoSide event → after core (event_of event) (walking w) ≡ walking w
unfolding after
nothing-after core (Upload side pass share) w h n = refl
nothing-after core Seal w h n = refl
nothing-after core (Claim side worker) w h n = absurd n
nothing-after core (Abandon side worker) w h n = absurd n
nothing-after core (Fill side report prefix) w h n = absurd n
nothing-after core (Evict side report prefix) w h n = absurd n
nothing-after core (Post side worker) w h n = absurd n
nothing-after core (Sweep side) w h n = absurd n
nothing-after core Carry w h n = absurd (h refl)

module _ (core : CoreSettings) (s : StageSeen) where
  -- ---- an event of one side

  zero-after : (sides : Sides) (new : Half) (event : HalfEvent)
      → half_seen core (phase_at s) Zero new ≡ half_after core (phase_at s) Zero event (half_seen core (phase_at s) Zero sides.zero)
      → after core (system.of_half Zero event) (walking (walking_at core s sides)) ≡ walking (walking_at core s (record { zero = new; one = sides.one }))
  unfolding after
  zero-after sides new event e = ap (λ h. walking (record (walking_at core s sides) { half0 = h })) (sym e)

  one-after : (sides : Sides) (new : Half) (event : HalfEvent)
      → half_seen core (phase_at s) One new ≡ half_after core (phase_at s) One event (half_seen core (phase_at s) One sides.one)
      → after core (system.of_half One event) (walking (walking_at core s sides)) ≡ walking (walking_at core s (record { zero = sides.zero; one = new }))
  unfolding after
  one-after sides new event e = ap (λ h. walking (record (walking_at core s sides) { half1 = h })) (sym e)

  pub zero-stepped : (sides : Sides) (new : Half) (event : HalfEvent) (side : Side) → side ≡ Zero → AreSides core s sides
      → IsHalf core (phase_at s) sides.zero.plan.side new
      → half_seen core (phase_at s) sides.zero.plan.side new ≡ half_after core (phase_at s) sides.zero.plan.side event (half_seen core (phase_at s) sides.zero.plan.side sides.zero)
      → new.counter ≤ sides.zero.counter + 1
      → IsStepped core s (system.of_half side event) sides (record { zero = new; one = sides.one })
  zero-stepped sides new event side is h half e count =
      let to = h.zero.plan.side_is in
      record {
        sides = record { zero = subst (λ x. IsHalf core (phase_at s) x new) to half; one = h.one };
        counters = (count, omega arith);
        after = ap (λ x. after core (system.of_half x event) (walking (walking_at core s sides))) is
            ∙ zero-after sides new event (subst (λ x. half_seen core (phase_at s) x new ≡ half_after core (phase_at s) x event (half_seen core (phase_at s) x sides.zero)) to e);
      }

  pub one-stepped : (sides : Sides) (new : Half) (event : HalfEvent) (side : Side) → side ≡ One → AreSides core s sides
      → IsHalf core (phase_at s) sides.one.plan.side new
      → half_seen core (phase_at s) sides.one.plan.side new ≡ half_after core (phase_at s) sides.one.plan.side event (half_seen core (phase_at s) sides.one.plan.side sides.one)
      → new.counter ≤ sides.one.counter + 1
      → IsStepped core s (system.of_half side event) sides (record { zero = sides.zero; one = new })
  one-stepped sides new event side is h half e count =
      let to = h.one.plan.side_is in
      record {
        sides = record { zero = h.zero; one = subst (λ x. IsHalf core (phase_at s) x new) to half };
        counters = (omega arith, count);
        after = ap (λ x. after core (system.of_half x event) (walking (walking_at core s sides))) is
            ∙ one-after sides new event (subst (λ x. half_seen core (phase_at s) x new ≡ half_after core (phase_at s) x event (half_seen core (phase_at s) x sides.one)) to e);
      }

  -- ---- an event that does nothing

  same-stepped : (sides : Sides) (event : system.Event) → AreSides core s sides
      → after core event (walking (walking_at core s sides)) ≡ walking (walking_at core s sides) → IsStepped core s event sides sides
  same-stepped sides event h e = record { sides = h; counters = (omega arith, omega arith); after = e }

  pub nothing-stepped : (sides : Sides) (event : Event) → AreSides core s sides → event ≢ Carry → IsOfNoSide event → IsStepped core s (event_of event) sides sides
  nothing-stepped sides event h c n = same-stepped sides (event_of event) h (nothing-after core event (walking_at core s sides) c n)

  -- ---- a carry

  carry-where : (w : Walking) (a b : Option ℕ) → first_unposted core (phase_of w) w.half0.log ≡ a → first_unposted core (phase_of w) w.half1.log ≡ b
      → after core system.carry (walking w) ≡ carried_where core w a b
  unfolding after
  carry-where w a b e f = ap (λ o. carried_where core w o (first_unposted core (phase_of w) w.half1.log)) e ∙ ap (carried_where core w a) f

  carry-waits : (sides : Sides) → AreSides core s sides → (AreComplete sides → ⊥) → after core system.carry (walking (walking_at core s sides)) ≡ walking (walking_at core s sides)
  carry-waits sides h waits = at (first_unposted core (phase_at s) sides.zero.state.log) (first_unposted core (phase_at s) sides.one.state.log) refl refl
    where
      at : (a b : Option ℕ) → first_unposted core (phase_at s) sides.zero.state.log ≡ a → first_unposted core (phase_at s) sides.one.state.log ≡ b
          → after core system.carry (walking (walking_at core s sides)) ≡ walking (walking_at core s sides)
      at None None e f = absurd (waits (all-there core (phase_at s) Zero sides.zero h.zero e, all-there core (phase_at s) One sides.one h.one f))
      at None (Some k) e f = carry-where (walking_at core s sides) None (Some k) e f
      at (Some k) b e f = carry-where (walking_at core s sides) (Some k) b e f

  carry-leads : (sides : Sides) → AreSides core s sides → AreComplete sides → after core system.carry (walking (walking_at core s sides)) ≡ carried_at core s sides
  carry-leads sides h all =
      carry-where (walking_at core s sides) None None (none-left core (phase_at s) Zero sides.zero h.zero all.0) (none-left core (phase_at s) One sides.one h.one all.1)

  pub carry-taken : (sides : Sides) (event : Event) (complete : Bool) → event ≡ Carry → AreSides core s sides → (IsTrue complete ↔ AreComplete sides)
      → IsTaken core s (event_of event) sides sides complete
  carry-taken sides event true e h is = (ap event_of e, refl, is.0 refl)
  carry-taken sides event false e h is =
      same-stepped sides (event_of event) h
      (ap (λ x. after core (event_of x) (walking (walking_at core s sides))) e ∙ carry-waits sides h (λ all. false≢true (is.1 all)))

  -- ---- many events

  module _ (first : Sides) (old : List Event) where
    pub run-carried : (sides new : Sides) (events rest : List Event) (event : Event) (complete : Bool) → HasRun core s first old sides events → events ≡ event ∷ rest
        → complete ≡ true → IsTaken core s (event_of event) sides new complete → HasEnded core s first old new rest true
    run-carried sides new events rest event false h e c is = absurd (false≢true c)
    run-carried sides new events rest event true h e c is =
        let count = ap length e in
        let same = is.1 in
        let there = subst (AreSides core s) (sym same) h.sides_are in (
          there,
          is.2,
          omega (arith, count, h.fewer),
          h.ran ∙ ap (λ l. run core (events_of l) (walking (walking_at core s sides))) e
              ∙ ap (λ x. run core (events_of rest) (after core x (walking (walking_at core s sides)))) is.0
              ∙ ap (λ x. run core (events_of rest) (after core system.carry (walking (walking_at core s x)))) (sym same)
              ∙ ap (run core (events_of rest)) (carry-leads new there is.2),
        )
