-- Parts of what is heard that follow one another, and what passed and was sent in both.
use Rattle.std.proofs.Common.{◌≡◌, ℕ, suc, List, [], ◌∷◌, ◌++◌, None, Some, length, take, refl, sym, ◌∙◌, ap, subst, arith, append_assoc, append-nil}
use Rattle.std.specs.Prelude.{Option, Result, Ok, Err, IfSome, IfOk, IfErr, OnErr}
use Rattle.std.specs.Result.{IsErr, IsErrAnd}
use mathlib.Core.Logic.{inl, inr}
use Rattle.std.proofs.lemmas.Bool.{cases_lt}
use Rattle.std.proofs.lemmas.List.{take-append-le, take_all}
use Rattle.shelf_io.specs.Talks.{Talk}
use Rattle.walk_definitions.specs.Walk.{End}
use Rattle.walk_definitions.specs.Messages.{Message}
use Rattle.walk_definitions.specs.Heard.{preceded}
use Rattle.walk_definitions.proofs.HeardSteps.{preceded-append}
use Rattle.pair_run.specs.declared.answers.PairError.{PairError}
use Rattle.pair_run.specs.Failures.{end_of, Stops}
use Rattle.pair_run.specs.Parts.{Part, GoesOn, EndsThere, followed}
use Rattle.pair_run.specs.Talking.{Grew, Passed, SentMore, SentPart}

-- ---- what passed

pub grew_then : (a b c : Talk) (s t : List Message) (z w o p : List ℕ) → Grew a b s z o → Grew b c t w p → Grew a c (s ++ t) (z ++ w) (o ++ p)
grew_then a b c s t z w o p first second = record {
  sent_grew = second.sent_grew ∙ ap (λ ms. ms ++ t) first.sent_grew ∙ append_assoc a.sent s t;
  zero_grew = second.zero_grew ∙ ap (λ xs. xs ++ w) first.zero_grew ∙ append_assoc a.received.zero z w;
  one_grew = second.one_grew ∙ ap (λ xs. xs ++ p) first.one_grew ∙ append_assoc a.received.one o p;
}

pub passed_map : (t0 t1 : Option Talk) (P Q : List Message → List ℕ → List ℕ → Type 0)
    → ((s : List Message) (z o : List ℕ) → P s z o → Q s z o) → Passed t0 t1 P → Passed t0 t1 Q
passed_map None t1 P Q f h = tt
passed_map (Some a) None P Q f h = absurd h
passed_map (Some a) (Some b) P Q f h = (h.0, h.1, h.2, h.3, f h.0 h.1 h.2 h.4)

pub passed_then : (t0 t1 t2 : Option Talk) (P Q R : List Message → List ℕ → List ℕ → Type 0)
    → ((s t : List Message) (z w o p : List ℕ) → P s z o → Q t w p → R (s ++ t) (z ++ w) (o ++ p)) → Passed t0 t1 P → Passed t1 t2 Q → Passed t0 t2 R
passed_then None t1 t2 P Q R f g h = tt
passed_then (Some a) None t2 P Q R f g h = absurd g
passed_then (Some a) (Some b) None P Q R f g h = absurd h
passed_then (Some a) (Some b) (Some c) P Q R f g h =
    (g.0 ++ h.0, g.1 ++ h.1, g.2 ++ h.2, grew_then a b c g.0 h.0 g.1 h.1 g.2 h.2 g.3 h.3, f g.0 h.0 g.1 h.1 g.2 h.2 g.4 h.4)

pub passed_none : (t : Option Talk) (P : List Message → List ℕ → List ℕ → Type 0) → P [] [] [] → Passed t t P
passed_none None P h = tt
passed_none (Some a) P h =
    ([], [], [], record { sent_grew = sym (append-nil a.sent); zero_grew = sym (append-nil a.received.zero); one_grew = sym (append-nil a.received.one) }, h)

-- ---- parts

module _ {X Y : Type 0} (p : Part X) (q : X → Part Y) where
  goes_followed : (x : X) (y : Y) (s t : List Message) (z w o r : List ℕ) → GoesOn p x s z o → GoesOn (q x) y t w r
      → GoesOn (followed p q) y (s ++ t) (z ++ w) (o ++ r)
  goes_followed x y s t z w o r first second = λ rest0 rest1 next.
      let go = λ (x : X) (a b : List ℕ). q x a b next in
      ap (λ xs. p xs ((o ++ r) ++ rest1) go) (append_assoc z w rest0)
      ∙ ap (λ xs. p (z ++ (w ++ rest0)) xs go) (append_assoc o r rest1)
      ∙ first (w ++ rest0) (r ++ rest1) go
      ∙ ap (preceded s) (second rest0 rest1 next)
      ∙ preceded-append s t (next y rest0 rest1)

  ends_first : (end : End) (s : List Message) (z o : List ℕ) → EndsThere p end s z o → EndsThere (followed p q) end s z o
  ends_first end s z o h = λ next. h (λ x a b. q x a b next)

  ends_second : (x : X) (end : End) (s t : List Message) (z w o r : List ℕ) → GoesOn p x s z o → EndsThere (q x) end t w r
      → EndsThere (followed p q) end (s ++ t) (z ++ w) (o ++ r)
  ends_second x end s t z w o r first second = λ next. first w r (λ x a b. q x a b next) ∙ ap (preceded s) (second next)

  pub passed_followed : (t0 t1 t2 : Option Talk) (x : X) (y : Y) → Passed t0 t1 (GoesOn p x) → Passed t1 t2 (GoesOn (q x) y) → Passed t0 t2 (GoesOn (followed p q) y)
  passed_followed t0 t1 t2 x y first second = passed_then t0 t1 t2 (GoesOn p x) (GoesOn (q x) y) (GoesOn (followed p q) y) (goes_followed x y) first second

  pub stops_first : (t0 t1 : Option Talk) (e : PairError) → Stops p t0 t1 e → Stops (followed p q) t0 t1 e
  stops_first t0 t1 e h = at (end_of e) h
    where
      at : (o : Option End) → IfSome o (λ end. Passed t0 t1 (EndsThere p end)) → IfSome o (λ end. Passed t0 t1 (EndsThere (followed p q) end))
      at None h = tt
      at (Some end) h = passed_map t0 t1 (EndsThere p end) (EndsThere (followed p q) end) (ends_first end) h

  pub stops_second : (t0 t1 t2 : Option Talk) (x : X) (e : PairError) → Passed t0 t1 (GoesOn p x) → Stops (q x) t1 t2 e → Stops (followed p q) t0 t2 e
  stops_second t0 t1 t2 x e first second = at (end_of e) second
    where
      at : (o : Option End) → IfSome o (λ end. Passed t1 t2 (EndsThere (q x) end)) → IfSome o (λ end. Passed t0 t2 (EndsThere (followed p q) end))
      at None h = tt
      at (Some end) h = passed_then t0 t1 t2 (GoesOn p x) (EndsThere (q x) end) (EndsThere (followed p q) end) (ends_second x end) first h

-- a part that is another but for its result and what follows
pub stops_as : {X Y : Type 0} (p : Part X) (q : Part Y) (t0 t1 : Option Talk) (e : PairError)
    → ((end : End) (s : List Message) (z o : List ℕ) → EndsThere p end s z o → EndsThere q end s z o) → Stops p t0 t1 e → Stops q t0 t1 e
stops_as p q t0 t1 e f h = at (end_of e) h
  where
    at : (o : Option End) → IfSome o (λ end. Passed t0 t1 (EndsThere p end)) → IfSome o (λ end. Passed t0 t1 (EndsThere q end))
    at None h = tt
    at (Some end) h = passed_map t0 t1 (EndsThere p end) (EndsThere q end) (f end) h

-- ---- what was sent

pub sent_then : (t0 t1 t2 : Option Talk) (s t : List Message) → SentMore t0 t1 s → SentMore t1 t2 t → SentMore t0 t2 (s ++ t)
sent_then None t1 t2 s t g h = tt
sent_then (Some a) None t2 s t g h = absurd g
sent_then (Some a) (Some b) None s t g h = absurd h
sent_then (Some a) (Some b) (Some c) s t g h = h ∙ ap (λ ms. ms ++ t) g ∙ append_assoc a.sent s t

take_front : (n : ℕ) (s t : List Message) → (k : ℕ) × (take k (s ++ t) ≡ take n s)
take_front n s t = elim (cases_lt n (length s)) [
  | inl h ↦ (n, take-append-le n s t (omega arith))
  | inr h ↦ (length s, take-append-le (length s) s t (omega arith) ∙ take_all (length s) s (omega arith) ∙ sym (take_all n s h))
]

take_behind : (n : ℕ) (s t : List Message) → (k : ℕ) × (take k (s ++ t) ≡ s ++ take n t)
take_behind n [] t = (n, refl)
take_behind n (m ∷ s) t = let rest = take_behind n s t in (suc rest.0, ap (λ r. m ∷ r) rest.1)

pub part_first : (t0 t1 : Option Talk) (s t : List Message) → SentPart t0 t1 s → SentPart t0 t1 (s ++ t)
part_first t0 t1 s t h = let k = take_front h.0 s t in (k.0, subst (SentMore t0 t1) (sym k.1) h.1)

pub part_second : (t0 t1 t2 : Option Talk) (s t : List Message) → SentMore t0 t1 s → SentPart t1 t2 t → SentPart t0 t2 (s ++ t)
part_second t0 t1 t2 s t g h =
    let k = take_behind h.0 s t in
    (k.0, subst (SentMore t0 t2) (sym k.1) (sent_then t0 t1 t2 s (take h.0 t) g h.1))

pub part_whole : (t0 t1 : Option Talk) (s : List Message) → SentMore t0 t1 s → SentPart t0 t1 s
part_whole t0 t1 s h = (length s, subst (SentMore t0 t1) (sym (take_all (length s) s (omega arith))) h)

-- ---- what an error is turned into

pub err_same : {X : Type 0} (r : Result X PairError) (e : PairError) (P : PairError → Type 0) → IsErr r × IsErrAnd r (λ p. p ≡ e) → P e → IfErr r P
err_same (Ok x) e P h p = tt
err_same (Err q) e P h p = subst P (sym h.1) p

pub if_ok : {X E : Type 0} (r : Result X E) (P Q : X → Type 0) → ((x : X) → P x → Q x) → IfOk r P → IfOk r Q
if_ok (Ok x) P Q f h = f x h
if_ok (Err e) P Q f h = tt

pub if_err : {X E : Type 0} (r : Result X E) (P Q : E → Type 0) → ((e : E) → P e → Q e) → IfErr r P → IfErr r Q
if_err (Ok x) P Q f h = tt
if_err (Err e) P Q f h = f e h

pub if_err_too : {X E : Type 0} (r : Result X E) (U : Type 0) (P Q : E → Type 0) → ((e : E) → U → P e → Q e) → OnErr r U → IfErr r P → IfErr r Q
if_err_too (Ok x) U P Q f u h = tt
if_err_too (Err e) U P Q f u h = f e u h
