-- After every list of events the system is on the walk, in the words of what is seen.
use Rattle.std.proofs.Common.{◌≡◌, ℕ, zero, suc, ◌-◌, Bool, true, false, List, [], ◌∷◌, Option, Some, Result, Ok, Err, refl, sym, ◌∙◌, ap, subst, arith}
use Rattle.std.specs.Prelude.{if◌then◌else◌, IfSome, IfNone, IfOk, map}
use Rattle.definitions.specs.declared.Side.TheVariants.{Zero, One}
use Rattle.definitions.specs.Evaluation.{Share}
use Rattle.walk_definitions.specs.Reports.{Report, batch}
use Rattle.walk_definitions.specs.Walk.{Heavy, End, done, capped, peer_message, views, live_at, stage_after, goes_on, stopped, ending, walk}
use Rattle.walk_definitions.proofs.Steps.{ending-last, ending-more}
use Rattle.core_definitions.specs.Phase as phase
use Rattle.core_definitions.specs.Phase.{CoreSettings, report_at}
use Rattle.core_definitions.specs.System.{Walking, System, collecting, walking, ended, Event, first_system, run, sealed, uploads, totals_to, live_now, WalkKept, EndKept, SystemKept}
use Rattle.core_definitions.proofs.Runs.{core_law}
use Rattle.half_events.specs.Settings.{AreUsable}
use Rattle.interleaving_core.specs.declared.events.Event as code
use Rattle.interleaving_core.specs.Collections.{IsSealed}
use Rattle.interleaving_core.specs.Events.{events_of}
use Rattle.interleaving_core.specs.Systems.{SystemSeen, ending_at, seen, named_kind, IsAtPhase, IsOnWalk, FollowsWalk}

-- ---- the walk's end is an answer or a cap

abbrev IsQuiet : End → Type 0
IsQuiet (done level passed heavy) = Unit {0}
IsQuiet (capped level wanted) = Unit {0}
IsQuiet (peer_message level kind at) = ⊥
IsQuiet (views level kind place x y) = ⊥

stopped-quiet : (level passed : ℕ) (found : List Heavy) → IsQuiet (stopped level passed found)
stopped-quiet level passed [] = tt
stopped-quiet level passed (h ∷ hs) = tt

quiet-by : (b : Bool) (x y : End) → IsQuiet x → IsQuiet y → IsQuiet (if b then x else y)
quiet-by true x y h k = h
quiet-by false x y h k = k

ending-quiet : (most : ℕ) (heavy : ℕ → List Heavy) (passed : ℕ → ℕ) (more level : ℕ) → IsQuiet (ending most heavy passed more level)
ending-quiet most heavy passed zero level = subst IsQuiet (sym (ending-last most heavy passed level)) tt
ending-quiet most heavy passed (suc more) level =
    subst IsQuiet (sym (ending-more most heavy passed more level))
    (quiet-by (goes_on most (heavy level)) _ _ (ending-quiet most heavy passed more (suc level)) (stopped-quiet level (passed level) (heavy level)))

quiet-told : (end whole : End) → IsQuiet end → end ≡ whole → IfSome (ending_at end) (λ e. ending_at whole ≡ Some e) × IfNone (ending_at end) ⊥
quiet-told (done level passed heavy) whole q e = (ap ending_at (sym e), tt)
quiet-told (capped level wanted) whole q e = (ap ending_at (sym e), tt)
quiet-told (peer_message level kind at) whole q e = absurd q
quiet-told (views level kind place x y) whole q e = absurd q

module _ (core : CoreSettings) where
  past-is : (past : ℕ) → past ≡ suc past - 1
  past-is past = omega arith

  walking-follows : (w : Walking) → WalkKept core w → IsOnWalk core w.batch (seen (walking w))
  walking-follows w h = record {
    batch = refl;
    candidates = h.candidates ∙ ap (λ n. (stage_after core.walk w.batch n).candidates) (past-is w.past);
    phase = at w.kind h.live;
  }
    where
      totals_are : w.recorded ≡ totals_to core.walk w.batch (suc w.past - 1)
      totals_are = h.recorded ∙ ap (totals_to core.walk w.batch) (past-is w.past)

      at : (kind : phase.Kind) → map (report_at w.batch) w.live ≡ live_now core.walk w.batch w.past kind → IsAtPhase core w.batch (Some (named_kind kind)) (seen (walking w))
      at phase.sketching live = ((live ∙ ap (live_at core.walk w.batch) (past-is w.past), totals_are), refl)
      at phase.totalling live = ((live, totals_are), refl)

  ended-follows : (w : Walking) (end : End) → EndKept core w end → IsOnWalk core w.batch (seen (ended w end))
  ended-follows w end h = record {
    batch = refl;
    candidates = h.candidates ∙ ap (λ n. (stage_after core.walk w.batch n).candidates) (past-is w.past);
    phase =
        let told = quiet-told end (walk core.walk w.batch) (subst IsQuiet (sym h.answer) (ending-quiet core.walk.cap _ _ (core.walk.bits - 1) 1)) h.answer in
        ((h.live, h.recorded), told.0, told.1);
  }

  system-follows : (zeros ones : List Share) (system : System) → SystemKept core zeros ones system → FollowsWalk core (batch zeros ones) (seen system)
  system-follows zeros ones (collecting log0 log1) h = (refl, tt)
  system-follows zeros ones (walking w) h = (tt, subst (λ b. IsOnWalk core b (seen (walking w))) h.0 (walking-follows w h.1))
  system-follows zeros ones (ended w end) h = (tt, subst (λ b. IsOnWalk core b (seen (ended w end))) h.0 (ended-follows w end h.1))

  pub run-follows : (most_bits : ℕ) → AreUsable most_bits core → (events : List Event)
      → FollowsWalk core (batch (uploads core Zero events) (uploads core One events)) (seen (run core events first_system))
  run-follows most_bits usable events =
      system-follows (uploads core Zero events) (uploads core One events) (run core events first_system)
      (core_law core (omega (arith, usable.some_bits)) usable.some_reports usable.some_candidates events)

-- what comes of a walk over the batch of the events that were collected follows the walk
pub seal-follows : {E : Type 0} (most_bits : ℕ) (core : CoreSettings) → AreUsable most_bits core → (old new : List code.Event) (found : Option (List Report)) (b : List Report)
    (result : Result SystemSeen E) → IfSome found (IsSealed core old new) → found ≡ Some b
    → IfOk result (λ system. system ≡ seen (run core (events_of new) (walking (sealed core b))))
    → IfOk result (FollowsWalk core (batch (uploads core Zero (events_of old)) (uploads core One (events_of old))))
seal-follows most_bits core usable old new found b (Err e) some is h = tt
seal-follows most_bits core usable old new found b (Ok system) some is h =
    let sealed_ = subst (λ f. IfSome f (IsSealed core old new)) is some in
    subst (FollowsWalk core (batch (uploads core Zero (events_of old)) (uploads core One (events_of old))))
    (ap seen sealed_.ran ∙ sym h) (run-follows core most_bits usable (events_of old))
