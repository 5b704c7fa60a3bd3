-- How what a link in memory keeps changes, and with it what passed.
use Rattle.std.proofs.Common.{◌≡◌, ℕ, ◌+◌, ◌-◌, ◌≤◌, ◌++◌, List, [], ◌∷◌, length, take, drop, refl, sym, ap, ap₂, ◌∙◌, arith, take-add, append-nil, length-append, length-drop}
use Rattle.std.proofs.Math.Seq.{drop-drop}
use Rattle.std.proofs.lemmas.List.{take-append-le, drop-append-le}
use Rattle.definitions.specs.declared.Side.{Side}
use Rattle.definitions.specs.declared.Side.TheVariants.{Zero, One}
use Rattle.shelf_io.specs.Talks.{Talk, sent_by, part_by, after_send, after_receive}
use Rattle.shelf_io.specs.Messages.{AreLast, talk_of, last, all_but}
use Rattle.shelf_io.proofs.TalkLaws.{sent_by-more}

kept_back : (q all part : List ℕ) → length (all ++ part) - length (q ++ part) ≡ length all - length q
kept_back q all part = let a = length-append all part in let b = length-append q part in omega (arith, a, b)

all_but-more : (q all part : List ℕ) → all_but (length (q ++ part)) (all ++ part) ≡ all_but (length q) all
all_but-more q all part = ap (λ k. take k (all ++ part)) (kept_back q all part) ∙ take-append-le (length all - length q) all part (omega arith)

last-more : (q all part : List ℕ) → last (length (q ++ part)) (all ++ part) ≡ last (length q) all ++ part
last-more q all part = ap (λ k. drop k (all ++ part)) (kept_back q all part) ∙ drop-append-le (length all - length q) all part (omega arith)

same_talk : {sent sent' : List (Side × List ℕ)} {a a' b b' c c' d d' : List ℕ} → sent ≡ sent' → a ≡ a' → b ≡ b' → c ≡ c' → d ≡ d'
    → ◌≡◌ {A = Talk} (record { sent = sent; received = record { zero = a; one = b }; waiting = record { zero = c; one = d } })
    (record { sent = sent'; received = record { zero = a'; one = b' }; waiting = record { zero = c'; one = d' } })
same_talk s p q r t = λ i. record { sent = s i; received = record { zero = p i; one = q i }; waiting = record { zero = r i; one = t i } }

all_but-sent : (side from : Side) (bytes q q' : List ℕ) (ms ms' : List (Side × List ℕ)) → ms' ≡ ms ++ (from, bytes) ∷ [] → q' ≡ q ++ part_by side from bytes
    → all_but (length q') (sent_by side ms') ≡ all_but (length q) (sent_by side ms)
all_but-sent side from bytes q q' ms ms' e f =
    ap₂ (λ (xs : List ℕ) (ns : List (Side × List ℕ)). all_but (length xs) (sent_by side ns)) f e
    ∙ ap (all_but (length (q ++ part_by side from bytes))) (sent_by-more side from bytes ms) ∙ all_but-more q (sent_by side ms) (part_by side from bytes)

pub last-sent : (side from : Side) (bytes q q' : List ℕ) (ms ms' : List (Side × List ℕ)) → ms' ≡ ms ++ (from, bytes) ∷ [] → q' ≡ q ++ part_by side from bytes
    → last (length q') (sent_by side ms') ≡ last (length q) (sent_by side ms) ++ part_by side from bytes
last-sent side from bytes q q' ms ms' e f =
    ap₂ (λ (xs : List ℕ) (ns : List (Side × List ℕ)). last (length xs) (sent_by side ns)) f e
    ∙ ap (last (length (q ++ part_by side from bytes))) (sent_by-more side from bytes ms) ∙ last-more q (sent_by side ms) (part_by side from bytes)

pub talk_sent : (from : Side) (bytes zero one zero' one' : List ℕ) (ms ms' : List (Side × List ℕ)) → ms' ≡ ms ++ (from, bytes) ∷ []
    → zero' ≡ zero ++ part_by One from bytes → one' ≡ one ++ part_by Zero from bytes
    → talk_of (record { sent = ms'; zero = length zero'; one = length one' }) ≡ after_send from bytes (talk_of (record { sent = ms; zero = length zero; one = length one }))
talk_sent Zero bytes zero one zero' one' ms ms' e f g =
    same_talk e (all_but-sent One Zero bytes zero zero' ms ms' e f) (all_but-sent Zero Zero bytes one one' ms ms' e g)
    (last-sent One Zero bytes zero zero' ms ms' e f ∙ append-nil (last (length zero) (sent_by One ms))) (last-sent Zero Zero bytes one one' ms ms' e g)
talk_sent One bytes zero one zero' one' ms ms' e f g =
    same_talk e (all_but-sent One One bytes zero zero' ms ms' e f) (all_but-sent Zero One bytes one one' ms ms' e g)
    (last-sent One One bytes zero zero' ms ms' e f) (last-sent Zero One bytes one one' ms ms' e g ∙ append-nil (last (length one) (sent_by Zero ms)))

pub last_sent : (from : Side) (bytes zero one zero' one' : List ℕ) (ms ms' : List (Side × List ℕ)) → ms' ≡ ms ++ (from, bytes) ∷ []
    → zero' ≡ zero ++ part_by One from bytes → one' ≡ one ++ part_by Zero from bytes → AreLast ms zero one → AreLast ms' zero' one'
last_sent from bytes zero one zero' one' ms ms' e f g h = record {
  of_one = f ∙ ap (λ xs. xs ++ part_by One from bytes) h.of_one ∙ sym (last-sent One from bytes zero zero' ms ms' e f);
  of_zero = g ∙ ap (λ xs. xs ++ part_by Zero from bytes) h.of_zero ∙ sym (last-sent Zero from bytes one one' ms ms' e g);
}

taken_place : (q q' all : List ℕ) (n : ℕ) → q' ≡ drop n q → n ≤ length q → q ≡ last (length q) all → length all - length q' ≡ (length all - length q) + n
taken_place q q' all n e inside h =
    let a : length q ≡ length all - (length all - length q) = ap length h ∙ length-drop (length all - length q) all in
    let b : length q' ≡ length q - n = ap length e ∙ length-drop n q in
    omega (arith, a, b, inside)

all_but-taken : (q q' all : List ℕ) (n : ℕ) → q' ≡ drop n q → n ≤ length q → q ≡ last (length q) all → all_but (length q') all ≡ all_but (length q) all ++ take n (last (length q) all)
all_but-taken q q' all n e inside h = ap (λ k. take k all) (taken_place q q' all n e inside h) ∙ take-add (length all - length q) n all

last-taken : (q q' all : List ℕ) (n : ℕ) → q' ≡ drop n q → n ≤ length q → q ≡ last (length q) all → last (length q') all ≡ drop n (last (length q) all)
last-taken q q' all n e inside h = ap (λ k. drop k all) (taken_place q q' all n e inside h) ∙ sym (drop-drop n (length all - length q) all)

pub talk_received_zero : (zero one zero' : List ℕ) (ms : List (Side × List ℕ)) (n : ℕ) → zero' ≡ drop n zero → n ≤ length zero → zero ≡ last (length zero) (sent_by One ms)
    → talk_of (record { sent = ms; zero = length zero'; one = length one }) ≡ after_receive Zero n (talk_of (record { sent = ms; zero = length zero; one = length one }))
talk_received_zero zero one zero' ms n e inside h = same_talk refl (all_but-taken zero zero' (sent_by One ms) n e inside h) refl (last-taken zero zero' (sent_by One ms) n e inside h) refl

pub talk_received_one : (zero one one' : List ℕ) (ms : List (Side × List ℕ)) (n : ℕ) → one' ≡ drop n one → n ≤ length one → one ≡ last (length one) (sent_by Zero ms)
    → talk_of (record { sent = ms; zero = length zero; one = length one' }) ≡ after_receive One n (talk_of (record { sent = ms; zero = length zero; one = length one }))
talk_received_one zero one one' ms n e inside h = same_talk refl refl (all_but-taken one one' (sent_by Zero ms) n e inside h) refl (last-taken one one' (sent_by Zero ms) n e inside h)
