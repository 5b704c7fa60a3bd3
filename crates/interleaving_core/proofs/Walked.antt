-- The walk of a batch at its beginning.
use Rattle.std.proofs.Common.{◌≡◌, ℕ, suc, ◌+◌, ◌-◌, ◌*◌, ◌<◌, ◌≤◌, ◌^◌, List, [], ◌∷◌, length, refl, sym, ◌∙◌, ap, subst, arith}
use Rattle.std.specs.Prelude.{get_or, map}
use Rattle.definitions.specs.declared.Side.TheVariants.{Zero, One}
use Rattle.walk_definitions.specs.Reports.{Report}
use Rattle.walk_definitions.specs.Walk.{first_candidates, live_at, survivors_at, ending}
use Rattle.walk_definitions.proofs.Steps.{candidates-none, live-none}
use Rattle.core_definitions.specs.Phase.{CoreSettings, sketching, report_at, no_report}
use Rattle.core_definitions.specs.System.{places, sealed, walking, run, WalkKept}
use Rattle.core_definitions.proofs.Conditions.{places-are, first-are}
use Rattle.core_definitions.proofs.Carry.{kept-fresh}
use Rattle.half_events.specs.Settings.{AreUsable}
use Rattle.half_events.specs.Stages.{StageSeen}
use Rattle.interleaving_core.specs.declared.events.Event.{Event}
use Rattle.interleaving_core.specs.declared.running.Walker.{Walker}
use Rattle.interleaving_core.specs.Events.{events_of}
use Rattle.interleaving_core.specs.Systems.{seen}
use Rattle.interleaving_core.specs.Walks.{begun_at, IsFirst}
use Rattle.interleaving_core.specs.Turns.{begun_of, HaveLevels, HasTurned}

map-places : {X : Type 0} (f : ℕ → X) (d : X) (at : ℕ) (xs : List X) → ((i : ℕ) → f (at + i) ≡ get_or xs i d) → map f (places at (length xs)) ≡ xs
map-places f d at [] h = refl
map-places f d at (x ∷ xs) h =
    let here : at ≡ at + 0 = omega arith in
    let first : f at ≡ x = ap f here ∙ h 0 in
    let rest = map-places f d (at + 1) xs (λ i. let next : at + 1 + i ≡ at + suc i = omega arith in ap f next ∙ h (suc i)) in
    cc

module _ (core : CoreSettings) (some : 1 ≤ core.walk.bits) where
  kept-sealed : (whole : List Report) → WalkKept core (sealed core whole)
  unfolding sealed
  kept-sealed whole = record {
    inside = some;
    live = map-places (report_at whole) no_report 0 whole (λ i. let same : 0 + i ≡ i = omega arith in ap (report_at whole) same) ∙ sym (live-none core.walk whole);
    candidates = sym (candidates-none core.walk whole);
    places = places-are (length whole) 0 (length whole) (omega arith);
    different = first-are;
    few = λ p. p;
    recorded = refl;
    goes = let all : core.walk.bits - 1 - 0 ≡ core.walk.bits - 1 = omega arith in
        ap (λ more. ending core.walk.cap (survivors_at core.walk whole) (λ level. length (live_at core.walk whole level)) more 1) all;
    kept0 = kept-fresh core _ Zero [] tt;
    kept1 = kept-fresh core _ One [] tt;
  }

abbrev first_stage : List Report → StageSeen
first_stage batch = record { batch = batch; past = 0; kind = sketching; live = places 0 (length batch); candidates = first_candidates; recorded = [] }

begun-sealed : (core : CoreSettings) (batch : List Report) (w : Walker) → IsFirst core batch w.walked → w.zero.items ≡ [] → w.one.items ≡ [] → begun_of core w ≡ sealed core batch
unfolding sealed
begun-sealed core batch w first e f =
    ap (λ s. begun_at core s w.zero.items w.one.items) first.stage_is
    ∙ ap (λ c. begun_at core (first_stage batch) c w.one.items) e
    ∙ ap (λ c. begun_at core (first_stage batch) [] c) f

pub walk-begins : (most_bits : ℕ) (core : CoreSettings) → AreUsable most_bits core → (batch : List Report) (w : Walker) (events : List Event)
    → IsFirst core batch w.walked → w.zero.items ≡ [] → w.one.items ≡ [] → HaveLevels core batch → length batch * core.walk.cap < 2 ^ 31
    → HasTurned core (sealed core batch) events w events
walk-begins most_bits core usable batch w events first e f levels small =
    let same = begun-sealed core batch w first e f in
    let whole : w.walked.batch ≡ batch = ap (λ (s : StageSeen). s.batch) first.stage_is in
    record {
      ready = record {
        fit = record {
          bits_are = first.bits_are;
          cap_is = first.cap_is;
          some_level = omega (arith, first.level_is);
          levels = subst (HaveLevels core) (sym whole) levels;
          small = subst (λ b. length b * core.walk.cap < 2 ^ 31) (sym whole) small;
        };
        kept = subst (WalkKept core) (sym same) (kept-sealed core (omega (arith, usable.some_bits)) batch);
      };
      fewer = omega arith;
      ran = ap (λ x. seen (run core (events_of events) (walking x))) (sym same);
    }
