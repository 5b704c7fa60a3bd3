-- One receive after another.
use Rattle.std.proofs.Common.{◌≡◌, ℕ, ◌+◌, ◌-◌, ◌≤◌, ◌++◌, List, [], Option, None, Some, length, take, drop, refl, sym, subst, ap, ap₂, ◌∙◌, append_assoc, append-nil, take-add, arith, length-drop}
use mathlib.Core.Logic.{inl, inr}
use Rattle.std.specs.Prelude.{◌⊎◌, ◌<◌, min, IfSome}
use Rattle.std.proofs.lemmas.Bool.{cases_lt}
use Rattle.peer_exchange.specs.Laws.{WaitingLaw}
use borrow.Rule.Slice.PartMut.{put_mid}
use Rattle.std.specs.Option.{option_map}
use Rattle.std.proofs.Math.Seq.{drop-drop}
use Rattle.std.proofs.lemmas.List.{take_all, drop_all, length-take-le, take-append-le}
use Rattle.definitions.specs.declared.Side.{Side}
use Rattle.definitions.specs.declared.Side.TheVariants.{Zero, One}
use Rattle.shelf_io.specs.Talks.{Talk, at, after_receive}
use Rattle.shelf_io.proofs.TalkLaws.{waiting-received}
use Rattle.shelf_io.proofs.ReadSteps.{more_read}

-- a talk in which a side has received these bytes and those wait for it
received_as : Side → List ℕ → List ℕ → Talk → Talk
received_as Zero received waiting talk = record { sent = talk.sent; received = record { zero = received; one = talk.received.one }; waiting = record { zero = waiting; one = talk.waiting.one } }
received_as One received waiting talk = record { sent = talk.sent; received = record { zero = talk.received.zero; one = received }; waiting = record { zero = talk.waiting.zero; one = waiting } }

takes_twice : (m n : ℕ) (received waiting : List ℕ) → (received ++ take m waiting) ++ take n (drop m waiting) ≡ received ++ take (m + n) waiting
takes_twice m n received waiting =
    append_assoc received (take m waiting) (take n (drop m waiting)) ∙ ap (λ xs. received ++ xs) (sym (take-add m n waiting))

-- two receives are one of both numbers
pub received_twice : (to : Side) (m n : ℕ) (talk : Talk) → after_receive to n (after_receive to m talk) ≡ after_receive to (m + n) talk
unfolding received_as
received_twice Zero m n talk = ap₂ (λ r w. received_as Zero r w talk) (takes_twice m n talk.received.zero talk.waiting.zero) (drop-drop n m talk.waiting.zero)
received_twice One m n talk = ap₂ (λ r w. received_as One r w talk) (takes_twice m n talk.received.one talk.waiting.one) (drop-drop n m talk.waiting.one)

-- a receive of nothing
pub received_none : (to : Side) (talk : Talk) → talk ≡ after_receive to 0 talk
unfolding received_as
received_none Zero talk = ap (λ r. received_as Zero r talk.waiting.zero talk) (sym (append-nil talk.received.zero))
received_none One talk = ap (λ r. received_as One r talk.waiting.one talk) (sym (append-nil talk.received.one))

-- where no more wait, a receive of more is the same
pub received_all : (to : Side) (n m : ℕ) (talk : Talk) → length (at to talk.waiting) ≤ n → n ≤ m → after_receive to n talk ≡ after_receive to m talk
unfolding received_as
received_all Zero n m talk all more = ap₂ (λ r w. received_as Zero (talk.received.zero ++ r) w talk)
    (take_all n talk.waiting.zero all ∙ sym (take_all m talk.waiting.zero (omega arith))) (drop_all n talk.waiting.zero all ∙ sym (drop_all m talk.waiting.zero (omega arith)))
received_all One n m talk all more = ap₂ (λ r w. received_as One (talk.received.one ++ r) w talk)
    (take_all n talk.waiting.one all ∙ sym (take_all m talk.waiting.one (omega arith))) (drop_all n talk.waiting.one all ∙ sym (drop_all m talk.waiting.one (omega arith)))

-- ---- over a link that may tell nothing

twice_told : (to : Side) (m n : ℕ) (first : Option Talk) → option_map (after_receive to n) (option_map (after_receive to m) first) ≡ option_map (after_receive to (m + n)) first
twice_told to m n None = refl
twice_told to m n (Some talk) = ap Some (received_twice to m n talk)

pub none_told : (to : Side) (first : Option Talk) → first ≡ option_map (after_receive to 0) first
none_told to None = refl
none_told to (Some talk) = ap Some (received_none to talk)

-- what one more receive left
pub more_told : (to : Side) (m n : ℕ) (first mid now : Option Talk) → mid ≡ option_map (after_receive to m) first
    → now ≡ option_map (after_receive to n) mid → now ≡ option_map (after_receive to (m + n)) first
more_told to m n first mid now so_far more = more ∙ ap (option_map (after_receive to n)) so_far ∙ twice_told to m n first

-- the bytes so far are the first of those that waited
abbrev pub SoFar : Side → ℕ → List ℕ → Option Talk → Type 0
SoFar to done bytes first = IfSome first (λ before. (done ≤ length (at to before.waiting)) × (take done bytes ≡ take done (at to before.waiting)))

grown : (done n k : ℕ) (old part waiting : List ℕ) → done ≤ length old → n ≤ length part
    → (done ≤ length waiting) × (take done old ≡ take done waiting)
    → (n ≤ length (drop done waiting)) × (take n part ≡ take n (drop done waiting))
    → (done + n ≤ length waiting) × (take (done + n) (put_mid done k old part) ≡ take (done + n) waiting)
grown done n k old part waiting inside few before now =
    let size : length (drop done waiting) ≡ length waiting - done = length-drop done waiting in
    let place : done ≡ 0 + done = omega arith in
    (omega (arith, size, before.0, now.0), more_read done n k 0 old part waiting before.1 inside few (now.1 ∙ ap (λ i. take n (drop i waiting)) place))

-- with those of one more receive
pub more_bytes : (to : Side) (done n k : ℕ) (old part : List ℕ) (first mid : Option Talk) → mid ≡ option_map (after_receive to done) first
    → done ≤ length old → n ≤ length part → SoFar to done old first → SoFar to n part mid → SoFar to (done + n) (put_mid done k old part) first
more_bytes to done n k old part None mid so_far inside few before now = tt
more_bytes to done n k old part (Some talk) mid so_far inside few before now =
    let told : SoFar to n part (Some (after_receive to done talk)) = subst (λ m. SoFar to n part m) so_far now in
    let left = waiting-received to done talk in
    grown done n k old part (at to talk.waiting) inside few before
    (subst (λ w. (n ≤ length w) × (take n part ≡ take n w)) left told)

-- nothing waits for a side
abbrev pub IsEnded : Side → Option Talk → Type 0
IsEnded to mid = IfSome mid (λ before. at to before.waiting ≡ [])

pub ended_of : {X Y : Type 0} (to : Side) (mid : Option Talk) → X → Y → IfSome mid (λ before. X → Y → at to before.waiting ≡ []) → IsEnded to mid
ended_of to None x y end = tt
ended_of to (Some talk) x y end = end x y

no_more : (to : Side) (done : ℕ) (talk : Talk) (mid : Option Talk) → mid ≡ Some (after_receive to done talk) → IsEnded to mid → length (at to talk.waiting) ≤ done
no_more to done talk mid so_far ended =
    let told : at to (after_receive to done talk).waiting ≡ [] = subst (λ m. IsEnded to m) so_far ended in
    let none : length (drop done (at to talk.waiting)) ≡ 0 = ap length (sym (waiting-received to done talk) ∙ told) in
    let size : length (drop done (at to talk.waiting)) ≡ length (at to talk.waiting) - done = length-drop done (at to talk.waiting) in
    omega arith

-- where nothing is left, all that waited was received
pub ended_told : (to : Side) (done n size : ℕ) (first mid now : Option Talk) → mid ≡ option_map (after_receive to done) first
    → now ≡ option_map (after_receive to n) mid → n ≡ 0 → done ≤ size → IsEnded to mid → now ≡ option_map (after_receive to size) first
ended_told to done n size None mid now so_far more none few ended = more_told to done n None mid now so_far more
ended_told to done n size (Some talk) mid now so_far more none few ended =
    let whole : done + n ≡ done = omega arith in
    more_told to done n (Some talk) mid now so_far more ∙ ap (λ k. Some (after_receive to k talk)) whole
    ∙ ap Some (received_all to done size talk (no_more to done talk mid so_far ended) few)

pub ended_bytes : (to : Side) (done k size : ℕ) (old part : List ℕ) (first mid : Option Talk) → mid ≡ option_map (after_receive to done) first
    → done ≤ length old → done ≤ size → SoFar to done old first → IsEnded to mid
    → IfSome first (λ before. take done (put_mid done k old part) ≡ take size (at to before.waiting))
ended_bytes to done k size old part None mid so_far inside few before ended = tt
ended_bytes to done k size old part (Some talk) mid so_far inside few before ended =
    let all = no_more to done talk mid so_far ended in
    let front : length (take done old) ≡ done = length-take-le done old inside in
    take-append-le done (take done old) (part ++ drop k (drop done old)) (omega (arith, front)) ∙ take_all done (take done old) (omega (arith, front))
    ∙ before.1 ∙ take_all done (at to talk.waiting) all ∙ sym (take_all size (at to talk.waiting) (omega (arith, all)))

-- ---- the laws

waiting_cases : (to : Side) (m : ℕ) (talk : Talk) → (m < length (at to talk.waiting)) ⊎ (length (at to talk.waiting) ≤ m)
    → after_receive to (min m (length (at to talk.waiting))) talk ≡ after_receive to m talk
waiting_cases to m talk (inl few) = let least : min m (length (at to talk.waiting)) ≡ m = omega arith in ap (λ n. after_receive to n talk) least
waiting_cases to m talk (inr all) = received_all to (min m (length (at to talk.waiting))) m talk (omega arith) (omega arith)

pub waiting_law : WaitingLaw
waiting_law to m talk = waiting_cases to m talk (cases_lt m (length (at to talk.waiting)))
