-- A phase that is carried, with what both sides found.
use Rattle.std.proofs.Common.{◌≡◌, ℕ, suc, ◌≤◌, Bool, true, false, List, [], ◌∷◌, ◌++◌, length, None, refl, sym, ◌∙◌, ap, subst}
use Rattle.std.specs.Global.{Vec}
use Rattle.std.specs.Prelude.{if◌then◌else◌, nat_eq, map}
use Rattle.std.proofs.lemmas.Bool.{false≢true}
use Rattle.definitions.specs.declared.Side.TheVariants.{Zero, One}
use Rattle.definitions.specs.Evaluation.{Node}
use Rattle.walk_definitions.specs.Reports.{Report}
use Rattle.walk_definitions.specs.Walk.{Heavy, End, done, survivors, children, goes_on, stopped}
use Rattle.core_definitions.specs.Phase as phase
use Rattle.core_definitions.specs.Phase.{CoreSettings, CacheEntry, Half, HalfKept, Posting, plain_node, values_of_tiles, first_unposted, AreTrue}
use Rattle.core_definitions.specs.System as system
use Rattle.core_definitions.specs.System.{Walking, System, walking, ended, begun, carried, carried_where, carried_totals, fresh_half, phase_of, after, run, WalkKept, EndKept}
use Rattle.core_definitions.proofs.Carry.{CarryKept, kept-carry}
use Rattle.half_events.specs.Halves.{half_seen}
use Rattle.half_events.specs.Stages.{StageSeen, phase_at}
use Rattle.half_events.specs.Settings.{AreUsable}
use Rattle.interleaving_core.specs.declared.events.Event.{Event}
use Rattle.interleaving_core.specs.declared.phases.Carried.{Carried}
use Rattle.interleaving_core.specs.declared.phases.Found.{Found}
use Rattle.interleaving_core.specs.declared.phases.Found.TheVariants.{Live, Added}
use Rattle.interleaving_core.specs.declared.sides.Sides.{Sides}
use Rattle.interleaving_core.specs.Events.{events_of}
use Rattle.interleaving_core.specs.Systems.{seen}
use Rattle.interleaving_core.specs.Sides.{walking_at, AreSides, AreComplete, HasEnded, carried_at}
use Rattle.interleaving_core.specs.Walks.{begun_at}
use Rattle.interleaving_core.specs.Phases.{sums_in, totals_in, IsFound, IsCarriedOn, carried_to, HasCount, IsCarried}
use Rattle.interleaving_core.proofs.Completion.{none-left}

-- ---- nothing happens to a system that ended

after-ended : (core : CoreSettings) (event : system.Event) (w : Walking) (end : End) → after core event (ended w end) ≡ ended w end
unfolding after
after-ended core (system.upload side number share) w end = refl
after-ended core system.seal w end = refl
after-ended core (system.of_half side event) w end = refl
after-ended core system.carry w end = refl

pub run-ended : (core : CoreSettings) (events : List system.Event) (w : Walking) (end : End) → run core events (ended w end) ≡ ended w end
run-ended core [] w end = refl
run-ended core (event ∷ events) w end = ap (run core events) (after-ended core event w end) ∙ run-ended core events w end

-- ---- the end of a phase of totals depends on the caches alone

module _ (core : CoreSettings) (b : List Report) (past : ℕ) (kind : phase.Kind) (live : List ℕ) (candidates : List (List Bool)) (recorded : List (List ℕ)) where
  abbrev walk_of : Half → Half → Walking
  walk_of h0 h1 = record { batch = b; past = past; kind = kind; live = live; candidates = candidates; half0 = h0; half1 = h1; recorded = recorded }

  module _ (h0 h1 g0 g1 : Half) (e0 : h0.cache ≡ g0.cache) (e1 : h1.cache ≡ g1.cache) (ns : List ℕ) where
    abbrev heavy : List Heavy
    heavy = survivors core.walk.threshold candidates ns

    abbrev further : List CacheEntry → List CacheEntry → System
    further c0 c1 = walking (begun core b (suc past) phase.sketching live (children heavy) c0 c1 (recorded ++ ns ∷ []))

    same-further : further h0.cache h1.cache ≡ further g0.cache g1.cache
    same-further = ap (λ c. further c h1.cache) e0 ∙ ap (further g0.cache) e1

    abbrev ended_at : Half → Half → End → System
    ended_at k0 k1 end = ended (record (walk_of k0 k1) { recorded = recorded ++ ns ∷ [] }) end

    pub totals-seen : (events : List system.Event)
        → seen (run core events (carried_totals core (walk_of h0 h1) ns)) ≡ seen (run core events (carried_totals core (walk_of g0 g1) ns))
    totals-seen events = at (nat_eq (suc past) core.walk.bits) (goes_on core.walk.cap heavy)
      where
        ends : (end : End) → seen (run core events (ended_at h0 h1 end)) ≡ seen (run core events (ended_at g0 g1 end))
        ends end = ap seen (run-ended core events _ end) ∙ sym (ap seen (run-ended core events (record (walk_of g0 g1) { recorded = recorded ++ ns ∷ [] }) end))

        at : (last more : Bool)
            → seen (run core events (if last then ended_at h0 h1 (done (suc past) (length live) heavy) else if more then further h0.cache h1.cache else ended_at h0 h1 (stopped (suc past) (length live) heavy)))
            ≡ seen (run core events (if last then ended_at g0 g1 (done (suc past) (length live) heavy) else if more then further g0.cache g1.cache else ended_at g0 g1 (stopped (suc past) (length live) heavy)))
        at true more = ends (done (suc past) (length live) heavy)
        at false true = ap (λ x. seen (run core events x)) same-further
        at false false = ends (stopped (suc past) (length live) heavy)

    ended-kept : (end : End) → EndKept core (record (walk_of h0 h1) { recorded = recorded ++ ns ∷ [] }) end
        → EndKept core (record (walk_of g0 g1) { recorded = recorded ++ ns ∷ [] }) end
    ended-kept end h = record {
      inside = h.inside;
      live = h.live;
      candidates = h.candidates;
      recorded = h.recorded;
      last = h.last;
      answer = h.answer;
    }

    pub totals-kept : IsCarriedOn core (carried_totals core (walk_of h0 h1) ns) → IsCarriedOn core (carried_totals core (walk_of g0 g1) ns)
    totals-kept = at (nat_eq (suc past) core.walk.bits) (goes_on core.walk.cap heavy)
      where
        at : (last more : Bool)
            → IsCarriedOn core (if last then ended_at h0 h1 (done (suc past) (length live) heavy) else if more then further h0.cache h1.cache else ended_at h0 h1 (stopped (suc past) (length live) heavy))
            → IsCarriedOn core (if last then ended_at g0 g1 (done (suc past) (length live) heavy) else if more then further g0.cache g1.cache else ended_at g0 g1 (stopped (suc past) (length live) heavy))
        at true more h = ended-kept (done (suc past) (length live) heavy) h
        at false true h = subst (IsCarriedOn core) same-further h
        at false false h = ended-kept (stopped (suc past) (length live) heavy) h

-- ---- a phase begins and ends

values-sums : (kind : phase.Kind) (core : CoreSettings) (p : phase.Phase) (nodes : ℕ → List Bool → Node) (ks : List ℕ) → kind ≡ phase.sketching
    → values_of_tiles core p kind nodes ks ≡ phase.of_sketch (sums_in (values_of_tiles core p kind nodes ks))
values-sums phase.sketching core p nodes ks e = refl
values-sums phase.totalling core p nodes ks e = let impossible : ⊥ = cc in absurd impossible

values-totals : (kind : phase.Kind) (core : CoreSettings) (p : phase.Phase) (nodes : ℕ → List Bool → Node) (ks : List ℕ) → kind ≡ phase.totalling
    → values_of_tiles core p kind nodes ks ≡ phase.of_totals (totals_in (values_of_tiles core p kind nodes ks))
values-totals phase.sketching core p nodes ks e = let impossible : ⊥ = cc in absurd impossible
values-totals phase.totalling core p nodes ks e = refl

fresh-cache : (core : CoreSettings) (p : phase.Phase) (cache : List CacheEntry) → cache ≡ (fresh_half core p cache).cache
unfolding fresh_half
fresh-cache core p cache = refl

module _ (core : CoreSettings) (s : StageSeen) where
  begun-is : (sides : Sides) (cache0 cache1 : List CacheEntry) → half_seen core (phase_at s) Zero sides.zero ≡ fresh_half core (phase_at s) cache0
      → half_seen core (phase_at s) One sides.one ≡ fresh_half core (phase_at s) cache1 → walking_at core s sides ≡ begun_at core s cache0 cache1
  begun-is sides cache0 cache1 e f =
      ap (λ h. record (walking_at core s sides) { half0 = h }) e
      ∙ ap (λ h. record (begun_at core s cache0 cache1) { half1 = h }) f

  kept-at : (sides : Sides) (cache0 cache1 : List CacheEntry) → WalkKept core (begun_at core s cache0 cache1) → AreSides core s sides → WalkKept core (walking_at core s sides)
  kept-at sides cache0 cache1 h are = record {
    inside = h.inside;
    live = h.live;
    candidates = h.candidates;
    places = h.places;
    different = h.different;
    few = h.few;
    recorded = h.recorded;
    goes = h.goes;
    kept0 = are.zero.kept;
    kept1 = are.one.kept;
  }

  -- ---- what is carried

  carried-live : (sides : Sides) (live : Vec ℕ) → IsFound core s sides (Live live)
      → carried_at core s sides ≡ carried_to core s (Live live) sides.zero.cache.items sides.one.cache.items
  carried-live sides live is =
      let ks0 = map (λ (e : Posting). e.tile) sides.zero.state.log in
      let ks1 = map (λ (e : Posting). e.tile) sides.one.state.log in
      ap (λ v. carried core (walking_at core s sides) v (half_seen core (phase_at s) One sides.one).values)
      (values-sums s.kind core (phase_at s) (plain_node s.batch Zero) ks0 is.0)
      ∙ ap (λ v. carried core (walking_at core s sides) (phase.of_sketch (sums_in (half_seen core (phase_at s) Zero sides.zero).values)) v)
      (values-sums s.kind core (phase_at s) (plain_node s.batch One) ks1 is.0)
      ∙ ap (λ l. walking (begun core s.batch s.past phase.totalling l s.candidates sides.zero.cache.items sides.one.cache.items s.recorded)) (sym is.1)

  carried-added : (sides : Sides) (totals : Vec ℕ) → IsFound core s sides (Added totals)
      → carried_at core s sides ≡ carried_totals core (walking_at core s sides) totals.items
  carried-added sides totals is =
      let ks0 = map (λ (e : Posting). e.tile) sides.zero.state.log in
      let ks1 = map (λ (e : Posting). e.tile) sides.one.state.log in
      ap (λ v. carried core (walking_at core s sides) v (half_seen core (phase_at s) One sides.one).values)
      (values-totals s.kind core (phase_at s) (plain_node s.batch Zero) ks0 is.0)
      ∙ ap (λ v. carried core (walking_at core s sides) (phase.of_totals (totals_in (half_seen core (phase_at s) Zero sides.zero).values)) v)
      (values-totals s.kind core (phase_at s) (plain_node s.batch One) ks1 is.0)
      ∙ ap (λ ns. carried_totals core (walking_at core s sides) ns) (sym is.2)

  carried-seen : (sides : Sides) (found : Found) → IsFound core s sides found → (events : List system.Event)
      → seen (run core events (carried_at core s sides)) ≡ seen (run core events (carried_to core s found sides.zero.cache.items sides.one.cache.items))
  carried-seen sides (Live live) is events = ap (λ x. seen (run core events x)) (carried-live sides live is)
  carried-seen sides (Added totals) is events =
      ap (λ x. seen (run core events x)) (carried-added sides totals is)
      ∙ totals-seen core s.batch s.past s.kind s.live s.candidates s.recorded (half_seen core (phase_at s) Zero sides.zero) (half_seen core (phase_at s) One sides.one)
      (fresh_half core (phase_at s) sides.zero.cache.items) (fresh_half core (phase_at s) sides.one.cache.items) (fresh-cache core _ _) (fresh-cache core _ _) totals.items events

  kept-to : (sides : Sides) (found : Found) → IsFound core s sides found → IsCarriedOn core (carried_at core s sides)
      → IsCarriedOn core (carried_to core s found sides.zero.cache.items sides.one.cache.items)
  kept-to sides (Live live) is h = subst (IsCarriedOn core) (carried-live sides live is) h
  kept-to sides (Added totals) is h =
      totals-kept core s.batch s.past s.kind s.live s.candidates s.recorded (half_seen core (phase_at s) Zero sides.zero) (half_seen core (phase_at s) One sides.one)
      (fresh_half core (phase_at s) sides.zero.cache.items) (fresh_half core (phase_at s) sides.one.cache.items) (fresh-cache core _ _) (fresh-cache core _ _) totals.items
      (subst (IsCarriedOn core) (carried-added sides totals is) h)

  count-of : (sides : Sides) (found : Found) → IsFound core s sides found → HasCount s found
  count-of sides (Live live) is = is.0
  count-of sides (Added totals) is = (is.0, is.1)

  carried-on : (by_reports : 1 ≤ core.by_reports) (by_candidates : 1 ≤ core.by_candidates) (whole : List Report) (x : System)
      → CarryKept core by_reports by_candidates whole x → IsCarriedOn core x
  carried-on r c whole (system.collecting log0 log1) h = h
  carried-on r c whole (walking w) h = h.1
  carried-on r c whole (ended w end) h = h.1

  kept-carried : (most_bits : ℕ) → AreUsable most_bits core → (sides : Sides) → WalkKept core (walking_at core s sides) → AreSides core s sides → AreComplete sides
      → IsCarriedOn core (carried_at core s sides)
  kept-carried most_bits usable sides kept are all =
      let w = walking_at core s sides in
      let e = none-left core (phase_at s) Zero sides.zero are.zero all.0 in
      let f = none-left core (phase_at s) One sides.one are.one all.1 in
      carried-on usable.some_reports usable.some_candidates w.batch (carried_at core s sides)
      (subst (λ o. CarryKept core usable.some_reports usable.some_candidates w.batch (carried_where core w None o)) f
      (subst (λ o. CarryKept core usable.some_reports usable.some_candidates w.batch (carried_where core w o (first_unposted core (phase_at s) sides.one.state.log))) e
      (kept-carry core usable.some_reports usable.some_candidates w kept)))

  -- both caches of a walk at the beginning of a phase are true
  pub cached-zero : (cache0 cache1 : List CacheEntry) → WalkKept core (begun_at core s cache0 cache1) → AreTrue s.batch Zero cache0
  cached-zero cache0 cache1 h = subst (AreTrue s.batch Zero) (sym (fresh-cache core (phase_at s) cache0)) h.kept0.cached

  pub cached-one : (cache0 cache1 : List CacheEntry) → WalkKept core (begun_at core s cache0 cache1) → AreTrue s.batch One cache1
  cached-one cache0 cache1 h = subst (AreTrue s.batch One) (sym (fresh-cache core (phase_at s) cache1)) h.kept1.cached

  -- the phase is carried
  pub phase-carried : (most_bits : ℕ) → AreUsable most_bits core → (first sides : Sides) (cache0 cache1 : List CacheEntry) (old new : List Event) (ended : Bool) (c : Carried)
      → WalkKept core (begun_at core s cache0 cache1)
      → half_seen core (phase_at s) Zero first.zero ≡ fresh_half core (phase_at s) cache0
      → half_seen core (phase_at s) One first.one ≡ fresh_half core (phase_at s) cache1
      → ended ≡ true → HasEnded core s first old sides new ended → IsFound core s sides c.found → c.zero ≡ sides.zero.cache → c.one ≡ sides.one.cache
      → IsCarried core s cache0 cache1 old new c
  phase-carried most_bits usable first sides cache0 cache1 old new false c kept e f is ran found g h = absurd (false≢true is)
  phase-carried most_bits usable first sides cache0 cache1 old new true c kept e f is ran found g h =
      let to : carried_to core s c.found sides.zero.cache.items sides.one.cache.items ≡ carried_to core s c.found c.zero.items c.one.items =
      ap (λ v. carried_to core s c.found v.items sides.one.cache.items) (sym g) ∙ ap (λ v. carried_to core s c.found c.zero.items v.items) (sym h) in
      record {
        seen_as = ap (λ w. seen (run core (events_of old) (walking w))) (sym (begun-is first cache0 cache1 e f))
            ∙ ap seen ran.3
            ∙ carried-seen sides c.found found (events_of new)
            ∙ ap (λ x. seen (run core (events_of new) x)) to;
        kept = subst (IsCarriedOn core) to
            (kept-to sides c.found found (kept-carried most_bits usable sides (kept-at sides cache0 cache1 kept ran.0) ran.0 ran.1));
        counts = count-of sides c.found found;
        fewer = ran.2;
      }
