-- What the totals of a level lead to.
use Rattle.std.proofs.Common.{◌≡◌, ℕ, suc, ◌+◌, ◌-◌, ◌*◌, ◌==◌, ◌≤◌, Bool, true, false, List, [], ◌∷◌, ◌++◌, length, Option, Some, None, refl, sym, ◌∙◌, ap, subst, arith}
use Rattle.std.specs.Global.{Vec}
use Rattle.std.specs.Prelude.{if◌then◌else◌, nat_eq}
use Rattle.walk_definitions.specs.Reports.{Report}
use Rattle.walk_definitions.specs.Walk.{Heavy, End, done, capped, survivors, children, goes_on, stopped}
use Rattle.core_definitions.specs.Phase as phase
use Rattle.core_definitions.specs.Phase.{CoreSettings, CacheEntry}
use Rattle.core_definitions.specs.System as system
use Rattle.core_definitions.specs.System.{Walking, System, walking, ended, begun, carried_totals, run}
use Rattle.frontier_walk.specs.Frontiers.{Frontier}
use Rattle.frontier_walk.specs.Outcomes.{Outcome, further, answered, too_many, following, halted, pruned}
use Rattle.phase_state.specs.declared.kind.Kind.TheVariants.{Sketch}
use Rattle.half_events.specs.Stages.{kind_of}
use Rattle.interleaving_core.specs.declared.outcomes.Outcome.TheVariants.{Done, Capped}
use Rattle.interleaving_core.specs.declared.running.Turn.TheVariants.{Further, Last}
use Rattle.interleaving_core.specs.declared.running.Walker.{Walker}
use Rattle.interleaving_core.specs.declared.systems.Standing.TheVariants.{Ended}
use Rattle.interleaving_core.specs.declared.walks.Walked.{Walked}
use Rattle.interleaving_core.specs.Systems as systems
use Rattle.interleaving_core.specs.Systems.{Ending, SystemSeen, seen, told_of}
use Rattle.interleaving_core.specs.Phases.{IsCarriedOn}
use Rattle.interleaving_core.specs.Turns.{begun_of, IsFit, LeadsTo}
use Rattle.interleaving_core.proofs.Carries.{run-ended}

module _ (core : CoreSettings) (b : List Report) (f : Frontier) (live : List ℕ) (recorded : List (List ℕ)) (c0 c1 : List CacheEntry) (ns : List ℕ)
    (some : 1 ≤ f.level) (bits : f.bits ≡ core.walk.bits) (cap : f.cap ≡ core.walk.cap) where
  abbrev heavy : List Heavy
  heavy = survivors core.walk.threshold f.candidates ns

  abbrev before : Walking
  before = begun core b (f.level - 1) phase.totalling live f.candidates c0 c1 recorded

  abbrev ended_with : End → System
  ended_with end = ended (record before { recorded = recorded ++ ns ∷ [] }) end

  abbrev next : List (List Bool) → System
  next qs = walking (begun core b (suc (f.level - 1)) phase.sketching live qs c0 c1 (recorded ++ ns ∷ []))

  level-is : suc (f.level - 1) ≡ f.level
  level-is = omega (arith, some)

  -- what is seen of the walk's end
  abbrev pub ends_seen : Option Ending → SystemSeen
  ends_seen o = record {
    batch = Some b;
    phase = None;
    level = f.level;
    live = live;
    candidates = f.candidates;
    totals = recorded ++ ns ∷ [];
    outcome = o;
  }

  seen-end : (events : List system.Event) (end : End) → seen (run core events (ended_with end)) ≡ ends_seen (systems.ending_at end)
  seen-end events end =
      ap seen (run-ended core events (record before { recorded = recorded ++ ns ∷ [] }) end)
      ∙ ap (λ l. record { batch = Some b; phase = None; level = l; live = live; candidates = f.candidates; totals = recorded ++ ns ∷ []; outcome = systems.ending_at end }) level-is

  abbrev by_tests : Bool → Bool → System
  by_tests last more =
      if last then ended_with (done (suc (f.level - 1)) (length live) heavy) else if more then next (children heavy)
      else ended_with (stopped (suc (f.level - 1)) (length live) heavy)

  abbrev pruned_by : Bool → Bool → Outcome
  pruned_by last more = if last then answered heavy else if more then further (following f heavy) else halted f heavy

  tests-are : carried_totals core before ns ≡ by_tests (f.level == f.bits) (goes_on f.cap heavy)
  unfolding system.fresh_half
  tests-are =
      ap (λ l. by_tests (nat_eq l core.walk.bits) (goes_on core.walk.cap heavy)) level-is
      ∙ ap (λ n. by_tests (nat_eq f.level n) (goes_on core.walk.cap heavy)) (sym bits)
      ∙ ap (λ n. by_tests (f.level == f.bits) (goes_on n heavy)) (sym cap)

  pub to-next : (g : Frontier) → further g ≡ pruned f ns core.walk.threshold
      → (carried_totals core before ns ≡ next g.candidates) × (g.bits ≡ f.bits) × (g.cap ≡ f.cap) × (g.level ≡ f.level + 1)
  to-next g e = at (f.level == f.bits) (goes_on f.cap heavy) heavy refl tests-are e
    where
      at : (last more : Bool) (hs : List Heavy) → hs ≡ heavy → carried_totals core before ns ≡ by_tests last more → further g ≡ pruned_by last more
          → (carried_totals core before ns ≡ next g.candidates) × (g.bits ≡ f.bits) × (g.cap ≡ f.cap) × (g.level ≡ f.level + 1)
      at true more hs i t p = let impossible : ⊥ = cc in absurd impossible
      at false true hs i t p =
          let same : g ≡ following f heavy = cc in
          (t ∙ ap (λ (x : Frontier). next x.candidates) (sym same), ap (λ (x : Frontier). x.bits) same, ap (λ (x : Frontier). x.cap) same, ap (λ (x : Frontier). x.level) same)
      at false false [] i t p =
          let none : further g ≡ answered [] = p ∙ ap (halted f) (sym i) in let impossible : ⊥ = cc in absurd impossible
      at false false (h ∷ hs) i t p =
          let none : further g ≡ halted f (h ∷ hs) = p ∙ ap (halted f) (sym i) in let impossible : ⊥ = cc in absurd impossible

  pub to-answer : (found : List Heavy) → answered found ≡ pruned f ns core.walk.threshold → (events : List system.Event)
      → seen (run core events (carried_totals core before ns)) ≡ ends_seen (Some (systems.answered found))
  to-answer found e events = ap (λ s. seen (run core events s)) tests-are ∙ at (f.level == f.bits) (goes_on f.cap heavy) heavy refl e
    where
      at : (last more : Bool) (hs : List Heavy) → hs ≡ heavy → answered found ≡ pruned_by last more
          → seen (run core events (by_tests last more)) ≡ ends_seen (Some (systems.answered found))
      at true more hs i p =
          let same : found ≡ heavy = cc in
          seen-end events (done (suc (f.level - 1)) (length live) heavy) ∙ ap (λ x. ends_seen (Some (systems.answered x))) (sym same)
      at false true hs i p = let impossible : ⊥ = cc in absurd impossible
      at false false [] i p =
          let halts : answered found ≡ answered [] = p ∙ ap (halted f) (sym i) in
          let same : found ≡ [] = cc in
          ap (λ x. seen (run core events (ended_with (stopped (suc (f.level - 1)) (length live) x)))) (sym i)
          ∙ seen-end events (done (suc (f.level - 1)) (length live) []) ∙ ap (λ x. ends_seen (Some (systems.answered x))) (sym same)
      at false false (h ∷ hs) i p =
          let halts : answered found ≡ halted f (h ∷ hs) = p ∙ ap (halted f) (sym i) in let impossible : ⊥ = cc in absurd impossible

  pub to-cap : (level wanted : ℕ) → pruned f ns core.walk.threshold ≡ too_many level wanted → (events : List system.Event)
      → seen (run core events (carried_totals core before ns)) ≡ ends_seen (Some (systems.too_many level wanted))
  to-cap level wanted e events = ap (λ s. seen (run core events s)) tests-are ∙ at (f.level == f.bits) (goes_on f.cap heavy) heavy refl e
    where
      at : (last more : Bool) (hs : List Heavy) → hs ≡ heavy → pruned_by last more ≡ too_many level wanted
          → seen (run core events (by_tests last more)) ≡ ends_seen (Some (systems.too_many level wanted))
      at true more hs i p = let impossible : ⊥ = cc in absurd impossible
      at false true hs i p = let impossible : ⊥ = cc in absurd impossible
      at false false [] i p =
          let halts : answered [] ≡ too_many level wanted = ap (halted f) i ∙ p in let impossible : ⊥ = cc in absurd impossible
      at false false (h ∷ hs) i p =
          let halts : too_many f.level (2 * length (h ∷ hs)) ≡ too_many level wanted = ap (halted f) i ∙ p in
          let first : f.level ≡ level = cc in
          let second : 2 * length (h ∷ hs) ≡ wanted = cc in
          ap (λ x. seen (run core events (ended_with (stopped (suc (f.level - 1)) (length live) x)))) (sym i)
          ∙ seen-end events (capped (suc (f.level - 1)) (2 * length (h ∷ hs)))
          ∙ ap (λ l. ends_seen (Some (systems.too_many l (2 * length (h ∷ hs))))) (level-is ∙ first)
          ∙ ap (λ n. ends_seen (Some (systems.too_many level n))) second

-- ---- the same of a walk

module _ (core : CoreSettings) (w : Walker) (ns : List ℕ) (totals : Vec (List ℕ)) (fit : IsFit core w.walked) (kind : kind_of w.walked.kind ≡ phase.totalling)
    (recorded : totals.items ≡ w.walked.totals.items ++ ns ∷ []) where
  abbrev f : Frontier
  f = w.walked.frontier

  abbrev of_kind : phase.Kind → System
  of_kind k = carried_totals core (begun core w.walked.batch (f.level - 1) k w.walked.live.items f.candidates w.zero.items w.one.items w.walked.totals.items) ns

  -- the walk with these totals
  abbrev pub walked_on : Walked
  walked_on = record { batch = w.walked.batch; frontier = f; live = w.walked.live; kind = w.walked.kind; totals = totals }

  -- at the next level
  abbrev pub next_level : Frontier → Walker
  next_level g = record { walked = record { batch = w.walked.batch; frontier = g; live = w.walked.live; kind = Sketch; totals = totals }; zero = w.zero; one = w.one }

  pub leads-on : (g : Frontier) → IsCarriedOn core (carried_totals core (begun_of core w) ns) → further g ≡ pruned f ns core.walk.threshold
      → LeadsTo core (carried_totals core (begun_of core w) ns) (Further (next_level g))
  leads-on g kept e =
      let n = to-next core w.walked.batch f w.walked.live.items w.walked.totals.items w.zero.items w.one.items ns fit.some_level fit.bits_are fit.cap_is g e in
      let past : suc (f.level - 1) ≡ g.level - 1 = omega (arith, n.3, fit.some_level) in
      let same : carried_totals core (begun_of core w) ns ≡ walking (begun_of core (next_level g)) =
      ap of_kind kind ∙ n.0
      ∙ ap (λ p. walking (begun core w.walked.batch p phase.sketching w.walked.live.items g.candidates w.zero.items w.one.items (w.walked.totals.items ++ ns ∷ []))) past
      ∙ ap (λ r. walking (begun core w.walked.batch (g.level - 1) phase.sketching w.walked.live.items g.candidates w.zero.items w.one.items r)) (sym recorded) in (
        record {
          fit = record {
            bits_are = n.1 ∙ fit.bits_are;
            cap_is = n.2 ∙ fit.cap_is;
            some_level = omega (arith, n.3);
            levels = fit.levels;
            small = fit.small;
          };
          kept = subst (IsCarriedOn core) same kept;
        },
        same,
      )

  told-end : (ending : Ending) → ends_seen core w.walked.batch f w.walked.live.items w.walked.totals.items w.zero.items w.one.items ns fit.some_level fit.bits_are fit.cap_is (Some ending)
      ≡ systems.told walked_on None (Some ending)
  told-end ending = ap (λ r. record { batch = Some w.walked.batch; phase = None; level = f.level; live = w.walked.live.items; candidates = f.candidates; totals = r; outcome = Some ending }) (sym recorded)

  pub leads-to-answer : (heavy : Vec Heavy) (last : SystemSeen) → last ≡ told_of (Ended walked_on (Done heavy)) → answered heavy.items ≡ pruned f ns core.walk.threshold
      → LeadsTo core (carried_totals core (begun_of core w) ns) (Last last)
  leads-to-answer heavy last is e events =
      ap (λ k. seen (run core events (of_kind k))) kind
      ∙ to-answer core w.walked.batch f w.walked.live.items w.walked.totals.items w.zero.items w.one.items ns fit.some_level fit.bits_are fit.cap_is heavy.items e events
      ∙ told-end (systems.answered heavy.items) ∙ sym is

  pub leads-to-cap : (level wanted : ℕ) (last : SystemSeen) → last ≡ told_of (Ended walked_on (Capped level wanted)) → pruned f ns core.walk.threshold ≡ too_many level wanted
      → LeadsTo core (carried_totals core (begun_of core w) ns) (Last last)
  leads-to-cap level wanted last is e events =
      ap (λ k. seen (run core events (of_kind k))) kind
      ∙ to-cap core w.walked.batch f w.walked.live.items w.walked.totals.items w.zero.items w.one.items ns fit.some_level fit.bits_are fit.cap_is level wanted e events
      ∙ told-end (systems.too_many level wanted) ∙ sym is
