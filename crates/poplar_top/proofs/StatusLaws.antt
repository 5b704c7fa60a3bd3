-- Which cause stands behind which status.
use Rattle.std.proofs.Common.{◌≡◌, ◌⊎◌, inl, inr, ℕ, List, Bool, false, refl, sym, subst, arith}
use Rattle.std.specs.Prelude.{IsTrue, nat_eq, ◌||◌}
use Rattle.poplar_top.specs.declared.refusal.Refusal.{Refusal}
use Rattle.poplar_top.specs.declared.refusal.Refusal.TheVariants.{Missing, TooLong, Header, Cut, LongPrefix, NoStrings, StringsLong, TooMany, LineLong, ZeroByte, Widths, Walk}
use Rattle.poplar_top.specs.declared.walk_refusal.WalkRefusal.TheVariants.{Cap, PeerMessage, Views}
use Rattle.poplar_top.specs.Outcomes.{Outcome}
use Rattle.poplar_top.specs.Outcomes.Outcome.{usage, refusal, texts, writes, untold_eval, untold_gen, untold_run, untold_find, unheard}
use Rattle.poplar_top.specs.Refusals.{status_of}
use Rattle.poplar_top.specs.Statuses.{MayStand, Stands, IsOwn, asks_shelf, asks_sinks, is_fault}
use Rattle.poplar_top.specs.Laws.{IsTold, UsageIsExact, RefusalsAreExact, AnswersAreComplete, ShelfFaultsAreExact, WalkFaultsAreExact, SinkFaultsAreExact}

-- a status that no refusal has: an answer's, that of usage, or a fault's
abbrev pub is_no_refusal : ℕ → Bool
is_no_refusal status = nat_eq status 0 || (nat_eq status 2 || is_fault status)

pub refusal_status : (r : Refusal) → IsTrue (is_no_refusal (status_of r)) → ⊥
refusal_status (Missing side) h = cc h
refusal_status (TooLong side) h = cc h
refusal_status (Header side at) h = cc h
refusal_status (Cut side at) h = cc h
refusal_status (LongPrefix bits width) h = cc h
refusal_status NoStrings h = cc h
refusal_status StringsLong h = cc h
refusal_status (TooMany lines) h = cc h
refusal_status (LineLong line) h = cc h
refusal_status (ZeroByte line) h = cc h
refusal_status (Widths zero one) h = cc h
refusal_status (Walk (Cap level wanted)) h = cc h
refusal_status (Walk (PeerMessage level kind at)) h = cc h
refusal_status (Walk (Views level kind place left right)) h = cc h

other : (r : Refusal) (n : ℕ) → IsTrue (is_no_refusal n) → status_of r ≡ n → ⊥
other r n is e = refusal_status r (subst (λ m. IsTrue (is_no_refusal m)) (sym e) is)

-- ---- usage

two_own : (o : Outcome) → IsOwn o 2 → o ≡ usage
two_own usage h = refl
two_own (refusal r) h = absurd (other r 2 refl (sym h))
two_own (texts out err) h = absurd (omega (arith, h))
two_own (writes zero_name zero_text one_name one_text) h = absurd (omega (arith, h))
two_own untold_eval h = absurd (omega (arith, h))
two_own untold_gen h = absurd (omega (arith, h))
two_own untold_run h = absurd (omega (arith, h))
two_own untold_find h = absurd (omega (arith, h))
two_own unheard h = absurd (omega (arith, h))

usage_only : (o : Outcome) (S L K : Type 0) → MayStand o S L K 2 → o ≡ usage
usage_only o S L K (inl own) = two_own o own
usage_only o S L K (inr (inl h)) = absurd (omega (arith, h.0))
usage_only o S L K (inr (inr (inl h))) = absurd (omega (arith, h.0))
usage_only o S L K (inr (inr (inr (inl h)))) = absurd (omega (arith, h.0))
usage_only o S L K (inr (inr (inr (inr h)))) = absurd (omega (arith, h))

usage_case : (S L K : Type 0) (status : ℕ) → (L → ⊥) → MayStand usage S L K status → (status ≡ 2) ⊎ (status ≡ 8)
usage_case S L K status no_link (inl own) = inl own
usage_case S L K status no_link (inr (inl h)) = absurd (cc h.1)
usage_case S L K status no_link (inr (inr (inl h))) = absurd (no_link h.1)
usage_case S L K status no_link (inr (inr (inr (inl h)))) = absurd (cc h.1)
usage_case S L K status no_link (inr (inr (inr (inr h)))) = inr h

pub usage_law : UsageIsExact
usage_law = record {
  only = λ o asked before after h. usage_only o _ _ _ h;
  all = λ o before after status e h.
      usage_case _ _ _ status (λ rose. cc rose.0) (subst (λ p. Stands p false before after status) e h);
}

-- ---- refusals

own_refusal : (o : Outcome) (r : Refusal) → IsTold o → IsOwn o (status_of r) → (s : Refusal) × (o ≡ refusal s) × (status_of s ≡ status_of r)
own_refusal usage r told h = absurd (other r 2 refl h)
own_refusal (refusal s) r told h = (s, refl, sym h)
own_refusal (texts out err) r told h = absurd (other r 0 refl h)
own_refusal (writes zero_name zero_text one_name one_text) r told h = absurd (other r 0 refl h)
own_refusal untold_eval r told h = absurd told
own_refusal untold_gen r told h = absurd told
own_refusal untold_run r told h = absurd told
own_refusal untold_find r told h = absurd told
own_refusal unheard r told h = absurd told

refusal_only : (o : Outcome) (S L K : Type 0) (r : Refusal) → IsTold o → MayStand o S L K (status_of r)
    → (s : Refusal) × (o ≡ refusal s) × (status_of s ≡ status_of r)
refusal_only o S L K r told (inl own) = own_refusal o r told own
refusal_only o S L K r told (inr (inl h)) = absurd (other r 6 refl h.0)
refusal_only o S L K r told (inr (inr (inl h))) = absurd (other r 7 refl h.0)
refusal_only o S L K r told (inr (inr (inr (inl h)))) = absurd (other r 10 refl h.0)
refusal_only o S L K r told (inr (inr (inr (inr h)))) = absurd (other r 8 refl h)

refusal_case : (r : Refusal) (S A L K : Type 0) (status : ℕ) → MayStand (refusal r) S (A × L) K status
    → (status ≡ status_of r) ⊎ ((status ≡ 6) × S) ⊎ ((status ≡ 7) × A × L) ⊎ (status ≡ 8)
refusal_case r S A L K status (inl own) = inl own
refusal_case r S A L K status (inr (inl h)) = inr (inl (h.0, h.2))
refusal_case r S A L K status (inr (inr (inl h))) = inr (inr (inl (h.0, h.1.0, h.1.1)))
refusal_case r S A L K status (inr (inr (inr (inl h)))) = absurd (cc h.1)
refusal_case r S A L K status (inr (inr (inr (inr h)))) = inr (inr (inr h))

pub refusal_law : RefusalsAreExact
refusal_law = record {
  only = λ o asked before after r told h. refusal_only o _ _ _ r told h;
  all = λ o asked before after r status e h. refusal_case r _ _ _ _ status (subst (λ p. Stands p asked before after status) e h);
}

-- ---- answers

texts_case : (out err : List ℕ) (S L K : Type 0) (status : ℕ) → (S → ⊥) → (L → ⊥) → (K → ⊥) → MayStand (texts out err) S L K status
    → (status ≡ 0) ⊎ (status ≡ 8)
texts_case out err S L K status no_shelf no_link no_sink (inl own) = inl own
texts_case out err S L K status no_shelf no_link no_sink (inr (inl h)) = absurd (no_shelf h.2)
texts_case out err S L K status no_shelf no_link no_sink (inr (inr (inl h))) = absurd (no_link h.1)
texts_case out err S L K status no_shelf no_link no_sink (inr (inr (inr (inl h)))) = absurd (no_sink h.2)
texts_case out err S L K status no_shelf no_link no_sink (inr (inr (inr (inr h)))) = inr h

files_case : (zero_name zero_text one_name one_text : List ℕ) (S L K : Type 0) (status : ℕ) → (S → ⊥) → (L → ⊥)
    → MayStand (writes zero_name zero_text one_name one_text) S L K status → (status ≡ 0) ⊎ (status ≡ 8)
files_case zero_name zero_text one_name one_text S L K status no_shelf no_link (inl own) = inl own
files_case zero_name zero_text one_name one_text S L K status no_shelf no_link (inr (inl h)) = absurd (no_shelf h.2)
files_case zero_name zero_text one_name one_text S L K status no_shelf no_link (inr (inr (inl h))) = absurd (no_link h.1)
files_case zero_name zero_text one_name one_text S L K status no_shelf no_link (inr (inr (inr (inl h)))) = absurd (cc h.1)
files_case zero_name zero_text one_name one_text S L K status no_shelf no_link (inr (inr (inr (inr h)))) = inr h

pub answer_law : AnswersAreComplete
answer_law = record {
  texts_written = λ o asked before after status text lines e no_shelf no_link no_sink h.
      texts_case text lines _ _ _ status no_shelf (λ rose. no_link rose.1) no_sink (subst (λ p. Stands p asked before after status) e h);
  files_written = λ o asked before after status zero_name zero_text one_name one_text e no_shelf no_link h.
      files_case zero_name zero_text one_name one_text _ _ _ status no_shelf (λ rose. no_link rose.1)
      (subst (λ p. Stands p asked before after status) e h);
}

-- ---- the link

seven_own : (o : Outcome) → IsOwn o 7 → ⊥
seven_own usage h = omega (arith, h)
seven_own (refusal r) h = other r 7 refl (sym h)
seven_own (texts out err) h = omega (arith, h)
seven_own (writes zero_name zero_text one_name one_text) h = omega (arith, h)
seven_own untold_eval h = omega (arith, h)
seven_own untold_gen h = omega (arith, h)
seven_own untold_run h = omega (arith, h)
seven_own untold_find h = omega (arith, h)
seven_own unheard h = omega (arith, h)

link_only : (o : Outcome) (S L K : Type 0) → MayStand o S L K 7 → L
link_only o S L K (inl own) = absurd (seven_own o own)
link_only o S L K (inr (inl h)) = absurd (omega (arith, h.0))
link_only o S L K (inr (inr (inl h))) = h.1
link_only o S L K (inr (inr (inr (inl h)))) = absurd (omega (arith, h.0))
link_only o S L K (inr (inr (inr (inr h)))) = absurd (omega (arith, h))

pub link_law : WalkFaultsAreExact
link_law = record { only = λ o asked before after h. link_only o _ _ _ h }

-- ---- the shelf

six_own : (o : Outcome) → IsOwn o 6 → ⊥
six_own usage h = omega (arith, h)
six_own (refusal r) h = other r 6 refl (sym h)
six_own (texts out err) h = omega (arith, h)
six_own (writes zero_name zero_text one_name one_text) h = omega (arith, h)
six_own untold_eval h = omega (arith, h)
six_own untold_gen h = omega (arith, h)
six_own untold_run h = omega (arith, h)
six_own untold_find h = omega (arith, h)
six_own unheard h = omega (arith, h)

shelf_only : (o : Outcome) (S L K : Type 0) → MayStand o S L K 6 → IsTrue (asks_shelf o) × S
shelf_only o S L K (inl own) = absurd (six_own o own)
shelf_only o S L K (inr (inl h)) = (h.1, h.2)
shelf_only o S L K (inr (inr (inl h))) = absurd (omega (arith, h.0))
shelf_only o S L K (inr (inr (inr (inl h)))) = absurd (omega (arith, h.0))
shelf_only o S L K (inr (inr (inr (inr h)))) = absurd (omega (arith, h))

pub shelf_law : ShelfFaultsAreExact
shelf_law = record { only = λ o asked before after h. shelf_only o _ _ _ h }

-- ---- the sinks

ten_own : (o : Outcome) → IsOwn o 10 → ⊥
ten_own usage h = omega (arith, h)
ten_own (refusal r) h = other r 10 refl (sym h)
ten_own (texts out err) h = omega (arith, h)
ten_own (writes zero_name zero_text one_name one_text) h = omega (arith, h)
ten_own untold_eval h = omega (arith, h)
ten_own untold_gen h = omega (arith, h)
ten_own untold_run h = omega (arith, h)
ten_own untold_find h = omega (arith, h)
ten_own unheard h = omega (arith, h)

sink_only : (o : Outcome) (S L K : Type 0) → MayStand o S L K 10 → IsTrue (asks_sinks o) × K
sink_only o S L K (inl own) = absurd (ten_own o own)
sink_only o S L K (inr (inl h)) = absurd (omega (arith, h.0))
sink_only o S L K (inr (inr (inl h))) = absurd (omega (arith, h.0))
sink_only o S L K (inr (inr (inr (inl h)))) = (h.1, h.2)
sink_only o S L K (inr (inr (inr (inr h)))) = absurd (omega (arith, h))

pub sink_law : SinkFaultsAreExact
sink_law = record { only = λ o asked before after h. sink_only o _ _ _ h }
