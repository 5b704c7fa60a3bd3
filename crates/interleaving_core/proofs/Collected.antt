-- Events while a system collects.
use Rattle.std.proofs.Common.{◌≡◌, ◌≢◌, ℕ, zero, suc, ◌<◌, ◌≤◌, Bool, true, false, List, [], ◌∷◌, ◌++◌, length, map, refl, sym, ◌∙◌, ap, subst, arith, length-append}
use Rattle.std.specs.Prelude.{if◌then◌else◌, nat_lt}
use Rattle.std.specs.List.{All, AllByRecursion}
use Rattle.std.proofs.lemmas.List.{length-map}
use Rattle.std.proofs.lemmas.Bool.{lt-ltb, le-ltb}
use Rattle.definitions.specs.declared.Side.{Side}
use Rattle.definitions.specs.declared.Side.TheVariants.{Zero, One}
use Rattle.definitions.specs.Evaluation.{Share}
use Rattle.walk_definitions.specs.Reports.{Report, held, batch}
use Rattle.core_definitions.specs.Phase.{CoreSettings}
use Rattle.core_definitions.specs.System as system
use Rattle.core_definitions.specs.System.{Entry, collecting, with_upload, after, run, first_system, walking, sealed}
use Rattle.report_batch.proofs.Given.{all_levels}
use Rattle.report_batch.proofs.Sizes.{size}
use Rattle.interleaving_core.specs.declared.events.Event.{Event}
use Rattle.interleaving_core.specs.declared.events.Event.TheVariants.{Upload, Seal, Claim, Abandon, Fill, Evict, Post, Sweep, Carry}
use Rattle.interleaving_core.specs.Events.{event_of, events_of, uploads_in, HasLevels}
use Rattle.interleaving_core.specs.Collections.{IsSealed, HasCollected}

all-more : {X : Type 0} (P : X → Type 0) (xs : List X) (x : X) → AllByRecursion P xs → P x → AllByRecursion P (xs ++ x ∷ [])
all-more P [] x h p = (p, tt)
all-more P (y ∷ ys) x h p = (h.0, all-more P ys x h.1 p)

all-map : {X Y : Type 0} (P : Y → Type 0) (f : X → Y) (xs : List X) → AllByRecursion (λ x. P (f x)) xs → All P (map f xs)
all-map P f [] h i d p = absurd (omega (arith, p))
all-map P f (x ∷ xs) h zero d p = h.0
all-map P f (x ∷ xs) h (suc i) d p = all-map P f xs h.1 i d (omega (arith, p))

module _ (core : CoreSettings) (old : List Event) where
  abbrev Long : Entry → Type 0
  Long e = length e.share.levels ≡ core.walk.bits

  module _ (log0 log1 : List Entry) (events rest : List Event) (h : HasCollected core old log0 log1 events) where
    -- the first event is taken, and the logs are as they were
    same-logs : (event : Event) → events ≡ event ∷ rest → after core (event_of event) (collecting log0 log1) ≡ collecting log0 log1 → HasCollected core old log0 log1 rest
    same-logs event e nothing =
        let left = subst (AllByRecursion (HasLevels core.walk.bits)) e h.left in
        let count = ap uploads_in e in
        let long = ap length e in
        record {
          ran = h.ran ∙ ap (λ l. run core (events_of l) (collecting log0 log1)) e ∙ ap (run core (events_of rest)) nothing;
          levels0 = h.levels0;
          levels1 = h.levels1;
          left = left.1;
          few = omega (arith, h.few, count);
          fewer = omega (arith, h.fewer, long);
        }

    upload-tested : (side : Side) (pass : ℕ) (share : Share) (b : Bool) → nat_lt pass core.uploaders ≡ b
        → after core (system.upload side pass share) (collecting log0 log1) ≡ (if b then with_upload side pass share log0 log1 else collecting log0 log1)
    unfolding after
    upload-tested side pass share b e = ap (λ x. if x then with_upload side pass share log0 log1 else collecting log0 log1) e

    -- no such uploader
    pub upload-refused : (side : Side) (pass : ℕ) (share : Share) → events ≡ Upload side pass share ∷ rest → core.uploaders ≤ pass → HasCollected core old log0 log1 rest
    upload-refused side pass share e high = same-logs (Upload side pass share) e (upload-tested side pass share false (le-ltb pass core.uploaders high))

    -- an event that is no upload and no seal
    other-nothing : (event : Event) → ((side : Side) (pass : ℕ) (share : Share) → event ≢ Upload side pass share) → event ≢ Seal
        → after core (event_of event) (collecting log0 log1) ≡ collecting log0 log1
    unfolding after
    other-nothing (Upload side pass share) u s = absurd (u side pass share refl)
    other-nothing Seal u s = absurd (s refl)
    other-nothing (Claim side worker) u s = refl
    other-nothing (Abandon side worker) u s = refl
    other-nothing (Fill side report prefix) u s = refl
    other-nothing (Evict side report prefix) u s = refl
    other-nothing (Post side worker) u s = refl
    other-nothing (Sweep side) u s = refl
    other-nothing Carry u s = refl

    pub other-passed : (event : Event) → events ≡ event ∷ rest → ((side : Side) (pass : ℕ) (share : Share) → event ≢ Upload side pass share) → event ≢ Seal
        → HasCollected core old log0 log1 rest
    other-passed event e u s = same-logs event e (other-nothing event u s)

    -- a share is uploaded
    pub upload-entered : (side : Side) (pass : ℕ) (share : Share) (new0 new1 : List Entry) → events ≡ Upload side pass share ∷ rest → pass < core.uploaders
        → collecting new0 new1 ≡ with_upload side pass share log0 log1 → HasCollected core old new0 new1 rest
    upload-entered Zero pass share new0 new1 e low is =
        let left = subst (AllByRecursion (HasLevels core.walk.bits)) e h.left in
        let count = ap uploads_in e in
        let long = ap length e in
        let entry : Entry = record { number = pass; share = share; reply = system.reply_to log0 share } in
        let first : new0 ≡ log0 ++ entry ∷ [] = cc in
        let second : new1 ≡ log1 = cc in
        let longer = ap length first ∙ length-append log0 (entry ∷ []) in
        record {
          ran = h.ran ∙ ap (λ l. run core (events_of l) (collecting log0 log1)) e
              ∙ ap (run core (events_of rest)) (upload-tested Zero pass share true (lt-ltb pass core.uploaders low) ∙ sym is);
          levels0 = subst (AllByRecursion Long) (sym first) (all-more Long log0 entry h.levels0 left.0);
          levels1 = subst (AllByRecursion Long) (sym second) h.levels1;
          left = left.1;
          few = omega (arith, h.few, count, longer);
          fewer = omega (arith, h.fewer, long);
        }
    upload-entered One pass share new0 new1 e low is =
        let left = subst (AllByRecursion (HasLevels core.walk.bits)) e h.left in
        let count = ap uploads_in e in
        let long = ap length e in
        let entry : Entry = record { number = pass; share = share; reply = system.reply_to log1 share } in
        let first : new0 ≡ log0 = cc in
        let second : new1 ≡ log1 ++ entry ∷ [] = cc in
        let same = ap length first in
        record {
          ran = h.ran ∙ ap (λ l. run core (events_of l) (collecting log0 log1)) e
              ∙ ap (run core (events_of rest)) (upload-tested One pass share true (lt-ltb pass core.uploaders low) ∙ sym is);
          levels0 = subst (AllByRecursion Long) (sym first) h.levels0;
          levels1 = subst (AllByRecursion Long) (sym second) (all-more Long log1 entry h.levels1 left.0);
          left = left.1;
          few = omega (arith, h.few, count, same);
          fewer = omega (arith, h.fewer, long);
        }

    seal-after : (b : List Report) → b ≡ batch (map (λ e. e.share) log0) (map (λ e. e.share) log1) → after core system.seal (collecting log0 log1) ≡ walking (sealed core b)
    unfolding after
    seal-after b is = ap (λ x. walking (sealed core x)) (sym is)

    -- the batch is made
    pub batch-sealed : (b : List Report) → events ≡ Seal ∷ rest → b ≡ batch (map (λ e. e.share) log0) (map (λ e. e.share) log1) → IsSealed core old rest b
    batch-sealed b e is =
        let shares0 = map (λ (e : Entry). e.share) log0 in
        let shares1 = map (λ (e : Entry). e.share) log1 in
        let IsLong : Share → Type 0 = λ s. length s.levels ≡ core.walk.bits in
        let count = ap uploads_in e in
        let long = ap length e in
        let most = (size shares0 shares1).0 in
        let same = ap length is in
        let all0 = length-map log0 (λ (e : Entry). e.share) in
        record {
          ran = h.ran ∙ ap (λ l. run core (events_of l) (collecting log0 log1)) e ∙ ap (run core (events_of rest)) (seal-after b is);
          levels = λ side. subst (λ r. All IsLong (map (λ x. held x side) r)) (sym is)
              (all_levels core.walk.bits shares0 shares1 (all-map IsLong (λ (e : Entry). e.share) log0 h.levels0) (all-map IsLong (λ (e : Entry). e.share) log1 h.levels1) side);
          few = omega (arith, most, same, all0, h.few);
          fewer = omega (arith, h.fewer, long);
        }
