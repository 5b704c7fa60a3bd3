-- Shares at seats: what sits down, uploads and gets up.
use Rattle.std.proofs.Common.{◌≡◌, ℕ, List, [], ◌∷◌, ◌++◌, map, refl, sym, ◌∙◌, ap, subst, append_assoc, append-nil, Vec, Global}
use Rattle.std.specs.Prelude.{flat_map, Option, Some, None, Result, Ok, Err, OnErr}
use Rattle.std.specs.List.{AllByRecursion, AllZip}
use Rattle.std.specs.List.Sorted.{IsPermutation}
use Rattle.std.proofs.lemmas.List.{map-append}
use Rattle.std.proofs.lemmas.Grind.{flat_map-append}
use Rattle.std.proofs.lemmas.List.Sorted.{IsPermutation-refl, IsPermutation-trans, IsPermutation-append_left, IsPermutation-append_right}
use Rattle.definitions.specs.declared.Side.{Side}
use Rattle.definitions.specs.Evaluation.{Share}
use Rattle.core_definitions.specs.System.{Entry}
use Rattle.walk_definitions.specs.Reports.{batch}
use Rattle.turn_lock.specs.Seen.{fresh_pass}
use Rattle.report_intake.specs.Seen.{IntakeId, UploadPassSeen}
use Rattle.report_intake.specs.History.{shares_of}
use Rattle.report_collection.specs.declared.uploader.Uploader.{Uploader}
use Rattle.report_collection.specs.Collections.{SideSeen, AddsSome}
use Rattle.report_collection.specs.Uploads.{IsTaken, Seated, HasUploaded, Served, own_at, queue_at, own_in, queued_in, own_of}
use Rattle.report_collection.proofs.Permuted.{moved, all_moved, interchanged, both_permuted}

-- ---- lists with one more at the end

pub flat_push : {X A : Type 0} (f : X → List A) (xs : List X) (x : X) → flat_map f (xs ++ x ∷ []) ≡ flat_map f xs ++ f x
flat_push f xs x = flat_map-append f xs (x ∷ []) ∙ ap (λ l. flat_map f xs ++ l) (append-nil (f x))

pub own_push : (passes : List UploadPassSeen) (pass : UploadPassSeen) → own_of (passes ++ pass ∷ []) ≡ own_of passes ++ shares_of pass.own
own_push passes pass =
    ap shares_of (flat_push (λ (p : UploadPassSeen). p.own) passes pass)
    ∙ map-append (λ (e : Entry). e.share) (flat_map (λ (p : UploadPassSeen). p.own) passes) pass.own

-- ---- new passes

nothing : (lock : IntakeId) (numbers : List ℕ) → flat_map (λ (p : UploadPassSeen). p.own) (map (fresh_pass lock) numbers) ≡ []
nothing lock [] = refl
nothing lock (n ∷ ns) = nothing lock ns

pub none_own : (lock : IntakeId) (numbers : List ℕ) → own_of (map (fresh_pass lock) numbers) ≡ []
none_own lock numbers = ap shares_of (nothing lock numbers)

abbrev side_seen : Side → ℕ → List Share → SideSeen
side_seen s n xs = record { side = s; uploaders = n; shares = xs }

pub seen_is : (s t : Side) (m n : ℕ) (xs ys : List Share) → s ≡ t → m ≡ n → xs ≡ ys → side_seen s m xs ≡ side_seen t n ys
seen_is s t m n xs ys e f g = cc

-- ---- one uploader

pub none_uploaded : (own : List Entry) (queue : List Share) → HasUploaded own queue own queue
none_uploaded own queue = record { added = []; entered = sym (append-nil (shares_of own)); all = IsPermutation-refl queue }

pub one_uploaded : (own own1 own2 : List Entry) (queue queue1 rest : List Share) (share : Share) → HasUploaded own queue own1 queue1 → queue1 ≡ rest ++ share ∷ []
    → shares_of own2 ≡ shares_of own1 ++ share ∷ [] → HasUploaded own queue own2 rest
one_uploaded own own1 own2 queue queue1 rest share h e f =
    let list = h.added ++ rest ++ share ∷ [] in
    record {
      added = h.added ++ share ∷ [];
      entered = f ∙ ap (λ l. l ++ share ∷ []) h.entered ∙ append_assoc (shares_of own) h.added (share ∷ []);
      all = IsPermutation-trans _ _ _ (subst (λ l. IsPermutation queue (h.added ++ l)) e h.all)
          (subst (IsPermutation (h.added ++ (rest ++ share ∷ []))) (sym (append_assoc h.added (share ∷ []) rest))
          (moved (h.added ++ (rest ++ share ∷ [])) h.added rest (share ∷ []) (h.added ++ rest) (share ∷ [] ++ rest) refl refl
          (subst (IsPermutation (h.added ++ (rest ++ share ∷ []))) (sym (append_assoc h.added rest (share ∷ []))) (IsPermutation-refl _))));
    }

pub share_entered : (own1 own2 : List Entry) (e : Entry) (share : Share) → own2 ≡ own1 ++ e ∷ [] → e.share ≡ share → shares_of own2 ≡ shares_of own1 ++ share ∷ []
share_entered own1 own2 e share f g =
    ap shares_of f ∙ map-append (λ (x : Entry). x.share) own1 (e ∷ []) ∙ ap (λ (s : Share). shares_of own1 ++ s ∷ []) g

abbrev or_else : Uploader → Option Uploader → Uploader
or_else w None = w
or_else w (Some v) = v

pub is_of : (lock : IntakeId) (seat : Option Uploader) (w : Uploader) → Seated lock seat → seat ≡ Some w → w.pass.lock ≡ lock
is_of lock seat w h is =
    let same : h.uploader ≡ w = ap (or_else w) (sym h.here ∙ is) in
    subst (λ (v : Uploader). v.pass.lock ≡ lock) same h.ours

-- ---- all of them

pub taken_of : (lock : IntakeId) (seats : List (Option Uploader)) → AllByRecursion (Seated lock) seats → AllByRecursion IsTaken seats
taken_of lock [] h = tt
taken_of lock (s ∷ ss) h = (record { uploader = h.0.uploader; here = h.0.here }, taken_of lock ss h.1)

pub seated_of : (lock : IntakeId) (olds news : List (Option Uploader)) → AllZip (Served lock) olds news → AllByRecursion (Seated lock) news
seated_of lock [] [] h = tt
seated_of lock [] (n ∷ ns) h = absurd h
seated_of lock (o ∷ os) [] h = absurd h
seated_of lock (o ∷ os) (n ∷ ns) h = (record { uploader = h.0.after; here = h.0.is; ours = h.0.ours }, seated_of lock os ns h.1)

-- what all uploaded together
pub record Gathered (own queue own_after queue_after : List Share) : Type 0 where
  pub added : List Share
  pub entered : IsPermutation (own ++ added) own_after
  pub all : IsPermutation queue (added ++ queue_after)

one_more : (o n : Option Uploader) (own queue own_after queue_after : List Share) (lock : IntakeId) → Served lock o n → Gathered own queue own_after queue_after
    → Gathered (own_at o ++ own) (queue_at o ++ queue) (own_at n ++ own_after) (queue_at n ++ queue_after)
one_more o n own queue own_after queue_after lock s g =
    let up = s.uploads in
    let mine : own_at n ≡ own_at o ++ up.added = ap own_at s.is ∙ up.entered ∙ ap (λ l. l ++ up.added) (sym (ap own_at s.was)) in
    let left : IsPermutation (queue_at o) (up.added ++ queue_at n) =
    subst (λ l. IsPermutation l (up.added ++ queue_at n)) (sym (ap queue_at s.was))
    (subst (λ l. IsPermutation s.before.queue.items (up.added ++ l)) (sym (ap queue_at s.is)) up.all) in
    record {
      added = up.added ++ g.added;
      entered = subst (λ l. IsPermutation ((own_at o ++ own) ++ (up.added ++ g.added)) (l ++ own_after)) (sym mine)
          (IsPermutation-trans _ _ _ (interchanged (own_at o) own up.added g.added)
          (IsPermutation-append_right (own_at o ++ up.added) (own ++ g.added) own_after g.entered));
      all = IsPermutation-trans _ _ _ (both_permuted (queue_at o) (up.added ++ queue_at n) queue (g.added ++ queue_after) left g.all)
          (interchanged up.added (queue_at n) g.added queue_after);
    }

pub gathered : (lock : IntakeId) (olds news : List (Option Uploader)) → AllZip (Served lock) olds news → Gathered (own_in olds) (queued_in olds) (own_in news) (queued_in news)
gathered lock [] [] h = record { added = []; entered = IsPermutation-refl []; all = IsPermutation-refl [] }
gathered lock [] (n ∷ ns) h = absurd h
gathered lock (o ∷ os) [] h = absurd h
gathered lock (o ∷ os) (n ∷ ns) h = one_more o n (own_in os) (queued_in os) (own_in ns) (queued_in ns) lock h.0 (gathered lock os ns h.1)

-- ---- who sits down and gets up

abbrev pub lists : List (Vec Share Global) → List Share
lists queues = flat_map (λ queue. queue.items) queues

module _ (whole : List Share) where
  pub queue_more : (list front : List Share) (queues : List (Vec Share Global)) (tail : Vec Share Global) → list ≡ front ++ tail.items
      → IsPermutation whole (list ++ lists queues) → IsPermutation whole (front ++ lists (queues ++ tail ∷ []))
  queue_more list front queues tail e h =
      moved whole front tail.items (lists queues) list (lists (queues ++ tail ∷ [])) e (flat_push (λ (q : Vec Share Global). q.items) queues tail) h

  pub last_queue : (queues : List (Vec Share Global)) (tail : Vec Share Global) → IsPermutation whole (tail.items ++ lists queues) → IsPermutation whole (lists (queues ++ tail ∷ []))
  last_queue queues tail h = all_moved whole tail.items (lists queues) (lists (queues ++ tail ∷ [])) (flat_push (λ (q : Vec Share Global). q.items) queues tail) h

  pub own_down : (old passes : List UploadPassSeen) (pass : UploadPassSeen) (seats : List (Option Uploader)) (seat : Option Uploader) → old ≡ passes ++ pass ∷ []
      → own_at seat ≡ shares_of pass.own → IsPermutation whole (own_of old ++ own_in seats) → IsPermutation whole (own_of passes ++ own_in (seats ++ seat ∷ []))
  own_down old passes pass seats seat e f h =
      moved whole (own_of passes) (shares_of pass.own) (own_in seats) (own_of old) (own_in (seats ++ seat ∷ [])) (ap own_of e ∙ own_push passes pass)
      (flat_push own_at seats seat ∙ ap (λ l. own_in seats ++ l) f) h

  pub queue_down : (old queues : List (Vec Share Global)) (queue : Vec Share Global) (seats : List (Option Uploader)) (seat : Option Uploader) → old ≡ queues ++ queue ∷ []
      → queue_at seat ≡ queue.items → IsPermutation whole (lists old ++ queued_in seats) → IsPermutation whole (lists queues ++ queued_in (seats ++ seat ∷ []))
  queue_down old queues queue seats seat e f h =
      moved whole (lists queues) queue.items (queued_in seats) (lists old) (queued_in (seats ++ seat ∷ []))
      (ap lists e ∙ flat_push (λ (q : Vec Share Global). q.items) queues queue) (flat_push queue_at seats seat ∙ ap (λ l. queued_in seats ++ l) f) h

  pub own_up : (old seats : List (Option Uploader)) (seat : Option Uploader) (passes : List UploadPassSeen) (pass : UploadPassSeen) → old ≡ seats ++ seat ∷ []
      → own_at seat ≡ shares_of pass.own → IsPermutation whole (own_in old ++ own_of passes) → IsPermutation whole (own_in seats ++ own_of (passes ++ pass ∷ []))
  own_up old seats seat passes pass e f h =
      moved whole (own_in seats) (shares_of pass.own) (own_of passes) (own_in old) (own_of (passes ++ pass ∷ []))
      (ap own_in e ∙ flat_push own_at seats seat ∙ ap (λ l. own_in seats ++ l) f) (own_push passes pass) h

pub queue_up : (old seats : List (Option Uploader)) (seat : Option Uploader) → old ≡ seats ++ seat ∷ [] → queue_at seat ≡ [] → queued_in old ≡ queued_in seats
queue_up old seats seat e f = ap queued_in e ∙ flat_push queue_at seats seat ∙ ap (λ l. queued_in seats ++ l) f ∙ append-nil (queued_in seats)

-- ---- a whole addition

module _ (old given own1 queue1 own2 queue2 new : List Share) (sat : IsPermutation old own1) (queued : IsPermutation given queue1)
    (did : Gathered own1 queue1 own2 queue2) (up : IsPermutation own2 new) where
  pub adds_some : AddsSome old given new
  adds_some = record {
    added = did.added;
    rest = queue2;
    once = IsPermutation-trans _ _ _ queued did.all;
    all = IsPermutation-trans _ _ _ (IsPermutation-append_left did.added old own1 sat) (IsPermutation-trans _ _ _ did.entered up);
  }

  pub adds_all : queue2 ≡ [] → IsPermutation (old ++ given) new
  adds_all none =
      let some : IsPermutation given (did.added ++ queue2) = IsPermutation-trans _ _ _ queued did.all in
      let whole : IsPermutation given did.added = subst (IsPermutation given) (ap (λ l. did.added ++ l) none ∙ append-nil did.added) some in
      let entered = IsPermutation-trans _ _ _ (IsPermutation-append_left did.added old own1 sat) (IsPermutation-trans _ _ _ did.entered up) in
      IsPermutation-trans _ _ _ (IsPermutation-append_right old given did.added whole) entered

module _ (old given dealt new : List Share) (same : IsPermutation given dealt) where
  pub dealt_some : AddsSome old dealt new → AddsSome old given new
  dealt_some h = record { added = h.added; rest = h.rest; once = IsPermutation-trans given dealt (h.added ++ h.rest) same h.once; all = h.all }

  pub dealt_all : IsPermutation (old ++ dealt) new → IsPermutation (old ++ given) new
  dealt_all h = IsPermutation-trans _ _ _ (IsPermutation-append_right old given dealt same) h

pub adds_none : (old given : List Share) → AddsSome old given old
adds_none old given = record { added = []; rest = given; once = IsPermutation-refl given; all = subst (λ l. IsPermutation l old) (sym (append-nil old)) (IsPermutation-refl old) }

pub on_err : {T E : Type 0} (r : Result T E) (P : Type 0) → P → OnErr r P
on_err (Ok x) P p = tt
on_err (Err e) P p = p

-- ---- the batch

pub same_batch : (a b c d : List Share) → a ≡ c → b ≡ d → batch a b ≡ batch c d
same_batch a b c d e f = cc
