-- What one kind of message leaves on a link, and what is heard of it.
use Rattle.std.proofs.Common.{◌≡◌, ℕ, zero, suc, ◌<◌, ◌≤◌, Bool, List, [], ◌∷◌, ◌++◌, None, Some, Ok, Err, length, take, drop, refl, sym, ◌∙◌, ap, subst, arith, append_assoc, append-nil}
use Rattle.std.specs.Prelude.{Option, Result, IfSome, IfErr, IsTrue}
use Rattle.std.specs.Option.{option_map}
use Rattle.std.specs.Result.{IsErr, IsErrAnd}
use Rattle.std.specs.List.{All}
use Rattle.std.proofs.lemmas.List.{drop_all}
use Rattle.definitions.specs.declared.Side.{Side}
use Rattle.definitions.specs.declared.Side.TheVariants.{Zero, One}
use Rattle.definitions.specs.Field.{modulus}
use Rattle.definitions.specs.Sketch.{Sums}
use Rattle.shelf_io.specs.Talks.{Talk, at, Sends, after_send, after_receive, IsIdle}
use Rattle.walk_definitions.specs.Walk.{peer_message}
use Rattle.walk_definitions.specs.Messages.{Message, message, flat, both_send, taken, behind}
use Rattle.walk_definitions.specs.Heard.{preceded, both_take, unflat, exchanged}
use Rattle.peer_exchange.specs.declared.exchange_error.ExchangeError.{ExchangeError}
use Rattle.peer_exchange.specs.declared.exchange_error.ExchangeError.TheVariants.{Link, PeerMessage, Memory}
use Rattle.peer_exchange.specs.Exchanges.{message_length, read_by, IsFault, IsOwn, Leaves}
use Rattle.peer_exchange.proofs.Flats.{unflat-flat}
use Rattle.peer_exchange.proofs.Fronts.{expected_law}
use Rattle.pair_run.specs.declared.answers.PairError.{PairError}
use Rattle.pair_run.specs.Failures.{end_of, error_of, Stops}
use Rattle.pair_run.specs.Parts.{GoesOn, EndsThere, exchange}
use Rattle.shelf_io.specs.Seen.{IsReady}
use Rattle.pair_run.specs.Talking.{Passed, SentMore, SentPart}
use Rattle.pair_run.proofs.Readings.{taken_before, length-message}

-- ---- after an error of a send

pub own_stops : (e : ExchangeError) → IsOwn e → end_of (error_of e) ≡ None
own_stops Link own = refl
own_stops (PeerMessage level kind at) own = absurd own
own_stops Memory own = refl

take_length : (n : ℕ) (xs : List ℕ) → length (take n xs) ≤ n
take_length zero xs = omega arith
take_length (suc n) [] = omega arith
take_length (suc n) (x ∷ xs) = let rest = take_length n xs in omega arith

module _ (kind level : ℕ) (own0 own1 : List ℕ) where
  abbrev both : List Message
  both = both_send kind level own0 own1

  -- ---- what is heard

  goes : (got0 got1 to0 to1 : List ℕ)
      → taken kind level (length own1) got0 ≡ Ok to0 → length got0 ≤ message_length (length own1)
      → taken kind level (length own0) got1 ≡ Ok to1 → length got1 ≤ message_length (length own0)
      → GoesOn (exchange kind level own0 own1) (to0, to1) both got0 got1
  unfolding exchanged
  goes got0 got1 to0 to1 read0 most0 read1 most1 = λ rest0 rest1 next.
      let go = λ (a b : List ℕ). next (a, b) (behind (length own1) (got0 ++ rest0)) (behind (length own0) (got1 ++ rest1)) in
      let front0 = taken_before kind level (length own1) got0 rest0 to0 read0 most0 in
      let front1 = taken_before kind level (length own0) got1 rest1 to1 read1 most1 in
      ap (preceded both)
      (ap (λ t. both_take kind level t (taken kind level (length own0) (got1 ++ rest1)) go) front0.0
      ∙ ap (λ t. both_take kind level (Ok to0) t go) front1.0
      ∙ ap (λ r. next (to0, to1) r (behind (length own0) (got1 ++ rest1))) front0.1
      ∙ ap (λ r. next (to0, to1) rest0 r) front1.1)

  ends_first : (got0 got1 : List ℕ) (place : ℕ) → taken kind level (length own1) got0 ≡ Err place
      → EndsThere (exchange kind level own0 own1) (peer_message level kind place) both got0 got1
  unfolding exchanged
  ends_first got0 got1 place read = λ next.
      ap (λ t. preceded both (both_take kind level t (taken kind level (length own0) got1)
      (λ a b. next (a, b) (behind (length own1) got0) (behind (length own0) got1)))) read

  ends_second : (got0 got1 to0 : List ℕ) (place : ℕ) → taken kind level (length own1) got0 ≡ Ok to0 → taken kind level (length own0) got1 ≡ Err place
      → EndsThere (exchange kind level own0 own1) (peer_message level kind place) both got0 got1
  unfolding exchanged
  ends_second got0 got1 to0 place read0 read1 = λ next.
      let go = λ (a b : List ℕ). next (a, b) (behind (length own1) got0) (behind (length own0) got1) in
      ap (λ t. preceded both (both_take kind level t (taken kind level (length own0) got1) go)) read0
      ∙ ap (λ t. preceded both (both_take kind level (Ok to0) t go)) read1

  -- ---- what passed

  sent_both : (a b c : Talk) → (b.sent ≡ a.sent ++ (Zero, message kind level own0) ∷ []) → (c.sent ≡ b.sent ++ (One, message kind level own1) ∷ [])
      → c.sent ≡ a.sent ++ both
  sent_both a b c first second =
      second ∙ ap (λ ms. ms ++ (One, message kind level own1) ∷ []) first ∙ append_assoc a.sent ((Zero, message kind level own0) ∷ []) ((One, message kind level own1) ∷ [])

  pub passed_both : (t0 t1 t2 t3 t4 : Option Talk) (c0 c1 : ℕ) (to0 to1 : List ℕ)
      → Sends Zero (message kind level own0) t0 t1 → Sends One (message kind level own1) t1 t2
      → IfSome t2 (λ b. read_by Zero kind level c0 b ≡ Ok to0) → t3 ≡ option_map (after_receive Zero (message_length c0)) t2
      → IfSome t3 (λ b. read_by One kind level c1 b ≡ Ok to1) → t4 ≡ option_map (after_receive One (message_length c1)) t3
      → c0 ≡ length own1 → c1 ≡ length own0
      → Passed t0 t4 (GoesOn (exchange kind level own0 own1) (to0, to1))
  passed_both t0 t1 t2 t3 t4 c0 c1 to0 to1 first second read0 third read1 fourth count0 count1 =
      let last : t4 ≡ option_map (after_receive One (message_length c1)) (option_map (after_receive Zero (message_length c0)) t2) =
      fourth ∙ ap (option_map (after_receive One (message_length c1))) third in
      subst (λ t. Passed t0 t (GoesOn (exchange kind level own0 own1) (to0, to1))) (sym last)
      (core t0 t1 t2 first second read0 (subst (λ t. IfSome t (λ b. read_by One kind level c1 b ≡ Ok to1)) third read1))
    where
      core : (t0 t1 t2 : Option Talk) → Sends Zero (message kind level own0) t0 t1 → Sends One (message kind level own1) t1 t2
          → IfSome t2 (λ b. read_by Zero kind level c0 b ≡ Ok to0)
          → IfSome (option_map (after_receive Zero (message_length c0)) t2) (λ b. read_by One kind level c1 b ≡ Ok to1)
          → Passed t0 (option_map (after_receive One (message_length c1)) (option_map (after_receive Zero (message_length c0)) t2)) (GoesOn (exchange kind level own0 own1) (to0, to1))
      core None t1 t2 first second read0 read1 = tt
      core (Some a) None t2 first second read0 read1 = absurd first
      core (Some a) (Some b) None first second read0 read1 = absurd second
      core (Some a) (Some b) (Some c) first second read0 read1 =
          let zero = take (message_length c0) c.waiting.zero in
          let one = take (message_length c1) c.waiting.one in (
            both,
            zero,
            one,
            record {
              sent_grew = sent_both a b c first.0 second.0;
              zero_grew = ap (λ ends. ends.zero ++ zero) (second.1 ∙ first.1);
              one_grew = ap (λ ends. ends.one ++ one) (second.1 ∙ first.1);
            },
            goes zero one to0 to1
                (ap (λ n. taken kind level n zero) (sym count0) ∙ read0) (subst (λ n. length zero ≤ message_length n) count0 (take_length (message_length c0) c.waiting.zero))
                (ap (λ n. taken kind level n one) (sym count1) ∙ read1) (subst (λ n. length one ≤ message_length n) count1 (take_length (message_length c1) c.waiting.one)),
          )

  -- ---- after an error of side 0's take

  moved : (to : Side) (most : ℕ) (t2 t3 : Option Talk) (e : ExchangeError) → Leaves to most t2 t3 e → (n : ℕ) × (t3 ≡ option_map (after_receive to n) t2)
  moved to most t2 t3 Link left = (left.0, left.2)
  moved to most t2 t3 (PeerMessage l k place) left = (most, left)
  moved to most t2 t3 Memory left = (left.0, left.2)

  same_end : (l k place : ℕ) → l ≡ level → k ≡ kind → peer_message l k place ≡ peer_message level kind place
  same_end l k place el ek = ap (λ l. peer_message l k place) el ∙ ap (λ k. peer_message level k place) ek

  first_core : (t0 t1 t2 : Option Talk) (c0 l k place : ℕ) → Sends Zero (message kind level own0) t0 t1 → Sends One (message kind level own1) t1 t2
      → IfSome t2 (λ b. (l ≡ level) × (k ≡ kind) × (read_by Zero kind level c0 b ≡ Err place)) → c0 ≡ length own1
      → Passed t0 (option_map (after_receive Zero (message_length c0)) t2) (EndsThere (exchange kind level own0 own1) (peer_message l k place))
  first_core None t1 t2 c0 l k place first second fault count0 = tt
  first_core (Some a) None t2 c0 l k place first second fault count0 = absurd first
  first_core (Some a) (Some b) None c0 l k place first second fault count0 = absurd second
  first_core (Some a) (Some b) (Some c) c0 l k place first second fault count0 =
      let zero = take (message_length c0) c.waiting.zero in (
        both,
        zero,
        [],
        record {
          sent_grew = sent_both a b c first.0 second.0;
          zero_grew = ap (λ ends. ends.zero ++ zero) (second.1 ∙ first.1);
          one_grew = ap (λ ends. ends.one) (second.1 ∙ first.1) ∙ sym (append-nil a.received.one);
        },
        λ next. ends_first zero [] place (ap (λ n. taken kind level n zero) (sym count0) ∙ fault.2) next
            ∙ ap (λ end. record { end = end; messages = both }) (sym (same_end l k place fault.0 fault.1)),
      )

  pub stops_first : (t0 t1 t2 t3 : Option Talk) (c0 : ℕ) (e : ExchangeError) → Sends Zero (message kind level own0) t0 t1 → Sends One (message kind level own1) t1 t2
      → IfSome t2 (λ b. IsFault kind level (read_by Zero kind level c0 b) e) → Leaves Zero (message_length c0) t2 t3 e → c0 ≡ length own1
      → Stops (exchange kind level own0 own1) t0 t3 (error_of e)
  stops_first t0 t1 t2 t3 c0 Link first second fault left count0 = tt
  stops_first t0 t1 t2 t3 c0 (PeerMessage l k place) first second fault left count0 =
      subst (λ t. Passed t0 t (EndsThere (exchange kind level own0 own1) (peer_message l k place))) (sym left)
      (first_core t0 t1 t2 c0 l k place first second fault count0)
  stops_first t0 t1 t2 t3 c0 Memory first second fault left count0 = tt

  -- ---- after an error of side 1's take

  second_core : (t0 t1 t2 : Option Talk) (c0 c1 l k place : ℕ) (to0 : List ℕ)
      → Sends Zero (message kind level own0) t0 t1 → Sends One (message kind level own1) t1 t2
      → IfSome t2 (λ b. read_by Zero kind level c0 b ≡ Ok to0)
      → IfSome (option_map (after_receive Zero (message_length c0)) t2) (λ b. (l ≡ level) × (k ≡ kind) × (read_by One kind level c1 b ≡ Err place))
      → c0 ≡ length own1 → c1 ≡ length own0
      → Passed t0 (option_map (after_receive One (message_length c1)) (option_map (after_receive Zero (message_length c0)) t2))
      (EndsThere (exchange kind level own0 own1) (peer_message l k place))
  second_core None t1 t2 c0 c1 l k place to0 first second read0 fault count0 count1 = tt
  second_core (Some a) None t2 c0 c1 l k place to0 first second read0 fault count0 count1 = absurd first
  second_core (Some a) (Some b) None c0 c1 l k place to0 first second read0 fault count0 count1 = absurd second
  second_core (Some a) (Some b) (Some c) c0 c1 l k place to0 first second read0 fault count0 count1 =
      let zero = take (message_length c0) c.waiting.zero in
      let one = take (message_length c1) c.waiting.one in (
        both,
        zero,
        one,
        record {
          sent_grew = sent_both a b c first.0 second.0;
          zero_grew = ap (λ ends. ends.zero ++ zero) (second.1 ∙ first.1);
          one_grew = ap (λ ends. ends.one ++ one) (second.1 ∙ first.1);
        },
        λ next. ends_second zero one to0 place (ap (λ n. taken kind level n zero) (sym count0) ∙ read0) (ap (λ n. taken kind level n one) (sym count1) ∙ fault.2) next
            ∙ ap (λ end. record { end = end; messages = both }) (sym (same_end l k place fault.0 fault.1)),
      )

  pub stops_second : (t0 t1 t2 t3 t4 : Option Talk) (c0 c1 : ℕ) (to0 : List ℕ) (e : ExchangeError)
      → Sends Zero (message kind level own0) t0 t1 → Sends One (message kind level own1) t1 t2
      → IfSome t2 (λ b. read_by Zero kind level c0 b ≡ Ok to0) → t3 ≡ option_map (after_receive Zero (message_length c0)) t2
      → IfSome t3 (λ b. IsFault kind level (read_by One kind level c1 b) e) → Leaves One (message_length c1) t3 t4 e → c0 ≡ length own1 → c1 ≡ length own0
      → Stops (exchange kind level own0 own1) t0 t4 (error_of e)
  stops_second t0 t1 t2 t3 t4 c0 c1 to0 Link first second read0 third fault left count0 count1 = tt
  stops_second t0 t1 t2 t3 t4 c0 c1 to0 (PeerMessage l k place) first second read0 third fault left count0 count1 =
      let last : t4 ≡ option_map (after_receive One (message_length c1)) (option_map (after_receive Zero (message_length c0)) t2) =
      left ∙ ap (option_map (after_receive One (message_length c1))) third in
      subst (λ t. Passed t0 t (EndsThere (exchange kind level own0 own1) (peer_message l k place))) (sym last)
      (second_core t0 t1 t2 c0 c1 l k place to0 first second read0
      (subst (λ t. IfSome t (λ b. (l ≡ level) × (k ≡ kind) × (read_by One kind level c1 b ≡ Err place))) third fault) count0 count1)
  stops_second t0 t1 t2 t3 t4 c0 c1 to0 Memory first second read0 third fault left count0 count1 = tt

  -- ---- what was sent, after an error

  pub sent_one : (t0 t1 t2 : Option Talk) → Sends Zero (message kind level own0) t0 t1 → t2 ≡ t1 → SentPart t0 t2 both
  sent_one t0 t1 t2 first same = subst (λ t. SentPart t0 t both) (sym same) (core t0 t1 first)
    where
      core : (t0 t1 : Option Talk) → Sends Zero (message kind level own0) t0 t1 → SentPart t0 t1 both
      core None t1 first = (0, tt)
      core (Some a) None first = absurd first
      core (Some a) (Some b) first = (1, first.0)

  sent_two : (t0 t1 t2 t3 : Option Talk) (to : Side) (n : ℕ) → Sends Zero (message kind level own0) t0 t1 → Sends One (message kind level own1) t1 t2
      → t3 ≡ option_map (after_receive to n) t2 → SentPart t0 t3 both
  sent_two t0 t1 t2 t3 to n first second third = subst (λ t. SentPart t0 t both) (sym third) (core t0 t1 t2 first second)
    where
      core : (t0 t1 t2 : Option Talk) → Sends Zero (message kind level own0) t0 t1 → Sends One (message kind level own1) t1 t2
          → SentPart t0 (option_map (after_receive to n) t2) both
      core None t1 t2 first second = (2, tt)
      core (Some a) None t2 first second = absurd first
      core (Some a) (Some b) None first second = absurd second
      core (Some a) (Some b) (Some c) first second = (2, sent_both a b c first.0 second.0)

  sent_three : (t0 t1 t2 t3 t4 : Option Talk) (m n : ℕ) → Sends Zero (message kind level own0) t0 t1 → Sends One (message kind level own1) t1 t2
      → t3 ≡ option_map (after_receive Zero m) t2 → t4 ≡ option_map (after_receive One n) t3 → SentPart t0 t4 both
  sent_three t0 t1 t2 t3 t4 m n first second third fourth =
      subst (λ t. SentPart t0 t both) (sym (fourth ∙ ap (option_map (after_receive One n)) third)) (core t0 t1 t2 first second)
    where
      core : (t0 t1 t2 : Option Talk) → Sends Zero (message kind level own0) t0 t1 → Sends One (message kind level own1) t1 t2
          → SentPart t0 (option_map (after_receive One n) (option_map (after_receive Zero m) t2)) both
      core None t1 t2 first second = (2, tt)
      core (Some a) None t2 first second = absurd first
      core (Some a) (Some b) None first second = absurd second
      core (Some a) (Some b) (Some c) first second = (2, sent_both a b c first.0 second.0)

  -- ---- on a true link on which nothing waits

  module _ (below0 : All (λ n. n < modulus) own0) (below1 : All (λ n. n < modulus) own1) where
    abbrev sent_to : Talk → Talk
    sent_to a = after_send One (message kind level own1) (after_send Zero (message kind level own0) a)

    reads_first : (a : Talk) → IsIdle a → read_by Zero kind level (length own1) (sent_to a) ≡ Ok own1
    reads_first a idle =
        expected_law Zero kind level own1 [] (sent_to a) below1
        (ap (λ xs. xs ++ message kind level own1) (idle Zero) ∙ sym (append-nil (message kind level own1)))

    reads_second : (a : Talk) (n : ℕ) → IsIdle a → read_by One kind level (length own0) (after_receive Zero n (sent_to a)) ≡ Ok own0
    reads_second a n idle =
        expected_law One kind level own0 [] (after_receive Zero n (sent_to a)) below0
        (ap (λ xs. xs ++ message kind level own0) (idle One) ∙ sym (append-nil (message kind level own0)))

    idle_after : (a : Talk) → IsIdle a → IsIdle (after_receive One (message_length (length own0)) (after_receive Zero (message_length (length own1)) (sent_to a)))
    idle_after a idle Zero =
        let long = length-message kind level own1 in
        ap (λ xs. drop (message_length (length own1)) (xs ++ message kind level own1)) (idle Zero)
        ∙ drop_all (message_length (length own1)) (message kind level own1) (omega (arith, long))
    idle_after a idle One =
        let long = length-message kind level own0 in
        ap (λ xs. drop (message_length (length own0)) (xs ++ message kind level own0)) (idle One)
        ∙ drop_all (message_length (length own0)) (message kind level own0) (omega (arith, long))

    same_ok : (xs ys : List ℕ) (r : Result (List ℕ) ℕ) → r ≡ Ok xs → r ≡ Ok ys → xs ≡ ys
    same_ok xs ys (Ok zs) e f = cc
    same_ok xs ys (Err at) e f = cc

    not_both : (xs : List ℕ) (place : ℕ) (r : Result (List ℕ) ℕ) → r ≡ Ok xs → r ≡ Err place → ⊥
    not_both xs place (Ok zs) e f = cc
    not_both xs place (Err at) e f = cc

    -- the talk before side 0's take, on a ready link
    ready_talk : (f0 : Bool) (a : Talk) (t1 t2 : Option Talk) → IsTrue f0 → (IsTrue f0 → t1 ≡ option_map (after_send Zero (message kind level own0)) (Some a))
        → (IsTrue f0 → t2 ≡ option_map (after_send One (message kind level own1)) t1) → t2 ≡ Some (sent_to a)
    ready_talk f0 a t1 t2 truth first second = second truth ∙ ap (option_map (after_send One (message kind level own1))) (first truth)

    pub ready_both : (f0 f4 : Bool) (t0 t1 t2 t3 t4 : Option Talk) (c0 c1 : ℕ) (to0 to1 : List ℕ)
        → (IsTrue f0 → t1 ≡ option_map (after_send Zero (message kind level own0)) t0) → (IsTrue f0 → t2 ≡ option_map (after_send One (message kind level own1)) t1)
        → IfSome t2 (λ b. read_by Zero kind level c0 b ≡ Ok to0) → t3 ≡ option_map (after_receive Zero (message_length c0)) t2
        → IfSome t3 (λ b. read_by One kind level c1 b ≡ Ok to1) → t4 ≡ option_map (after_receive One (message_length c1)) t3
        → c0 ≡ length own1 → c1 ≡ length own0 → (IsTrue f0 → IsTrue f4) → IsReady f0 t0
        → (to0 ≡ own1) × (to1 ≡ own0) × IsReady f4 t4 × SentMore t0 t4 both
    ready_both f0 f4 None t1 t2 t3 t4 c0 c1 to0 to1 first second read0 third read1 fourth count0 count1 stays ready = absurd ready
    ready_both f0 f4 (Some a) t1 t2 t3 t4 c0 c1 to0 to1 first second read0 third read1 fourth count0 count1 stays ready =
        let c_is = ready_talk f0 a t1 t2 ready.0 first second in
        let d_is : t3 ≡ Some (after_receive Zero (message_length (length own1)) (sent_to a)) =
        third ∙ ap (option_map (after_receive Zero (message_length c0))) c_is ∙ ap (λ n. Some (after_receive Zero (message_length n) (sent_to a))) count0 in
        let e_is : t4 ≡ Some (after_receive One (message_length (length own0)) (after_receive Zero (message_length (length own1)) (sent_to a))) =
        fourth ∙ ap (option_map (after_receive One (message_length c1))) d_is
        ∙ ap (λ n. Some (after_receive One (message_length n) (after_receive Zero (message_length (length own1)) (sent_to a)))) count1 in
        let first_read : read_by Zero kind level c0 (sent_to a) ≡ Ok to0 = subst (λ t. IfSome t (λ b. read_by Zero kind level c0 b ≡ Ok to0)) c_is read0 in
        let second_read : read_by One kind level c1 (after_receive Zero (message_length (length own1)) (sent_to a)) ≡ Ok to1 =
        subst (λ t. IfSome t (λ b. read_by One kind level c1 b ≡ Ok to1)) d_is read1 in (
          same_ok to0 own1 (read_by Zero kind level c0 (sent_to a)) first_read (ap (λ n. read_by Zero kind level n (sent_to a)) count0 ∙ reads_first a ready.1),
          same_ok to1 own0 (read_by One kind level c1 (after_receive Zero (message_length (length own1)) (sent_to a))) second_read
              (ap (λ n. read_by One kind level n (after_receive Zero (message_length (length own1)) (sent_to a))) count1 ∙ reads_second a (message_length (length own1)) ready.1),
          subst (IsReady f4) (sym e_is) (stays ready.0, idle_after a ready.1),
          subst (λ t. SentMore (Some a) t both) (sym e_is) (append_assoc a.sent ((Zero, message kind level own0) ∷ []) ((One, message kind level own1) ∷ [])),
        )

    pub partly_first : (f0 : Bool) (t0 t1 t2 t3 : Option Talk) (c0 : ℕ) (e : ExchangeError)
        → Sends Zero (message kind level own0) t0 t1 → Sends One (message kind level own1) t1 t2
        → (IsTrue f0 → t1 ≡ option_map (after_send Zero (message kind level own0)) t0) → (IsTrue f0 → t2 ≡ option_map (after_send One (message kind level own1)) t1)
        → IfSome t2 (λ b. IsFault kind level (read_by Zero kind level c0 b) e) → Leaves Zero (message_length c0) t2 t3 e → c0 ≡ length own1
        → IsReady f0 t0 → (end_of (error_of e) ≡ None) × SentPart t0 t3 both
    partly_first f0 t0 t1 t2 t3 c0 e sent0 sent1 first second fault left count0 ready =
        let n = moved Zero (message_length c0) t2 t3 e left in
        (cause t0 e fault first ready, sent_two t0 t1 t2 t3 Zero n.0 sent0 sent1 n.1)
      where
        cause : (t0 : Option Talk) (e : ExchangeError) → IfSome t2 (λ b. IsFault kind level (read_by Zero kind level c0 b) e)
            → (IsTrue f0 → t1 ≡ option_map (after_send Zero (message kind level own0)) t0) → IsReady f0 t0 → end_of (error_of e) ≡ None
        cause t0 Link fault first ready = refl
        cause None (PeerMessage l k place) fault first ready = absurd ready
        cause (Some a) (PeerMessage l k place) fault first ready =
            let c_is = ready_talk f0 a t1 t2 ready.0 first second in
            let wrong = subst (λ t. IfSome t (λ b. IsFault kind level (read_by Zero kind level c0 b) (PeerMessage l k place))) c_is fault in
            absurd (not_both own1 place (read_by Zero kind level c0 (sent_to a)) (ap (λ n. read_by Zero kind level n (sent_to a)) count0 ∙ reads_first a ready.1) wrong.2)
        cause t0 Memory fault first ready = refl

    pub partly_second : (f0 : Bool) (t0 t1 t2 t3 t4 : Option Talk) (c0 c1 : ℕ) (e : ExchangeError)
        → Sends Zero (message kind level own0) t0 t1 → Sends One (message kind level own1) t1 t2
        → (IsTrue f0 → t1 ≡ option_map (after_send Zero (message kind level own0)) t0) → (IsTrue f0 → t2 ≡ option_map (after_send One (message kind level own1)) t1)
        → t3 ≡ option_map (after_receive Zero (message_length c0)) t2
        → IfSome t3 (λ b. IsFault kind level (read_by One kind level c1 b) e) → Leaves One (message_length c1) t3 t4 e → c1 ≡ length own0
        → IsReady f0 t0 → (end_of (error_of e) ≡ None) × SentPart t0 t4 both
    partly_second f0 t0 t1 t2 t3 t4 c0 c1 e sent0 sent1 first second third fault left count1 ready =
        let n = moved One (message_length c1) t3 t4 e left in
        (cause t0 e fault first ready, sent_three t0 t1 t2 t3 t4 (message_length c0) n.0 sent0 sent1 third n.1)
      where
        cause : (t0 : Option Talk) (e : ExchangeError) → IfSome t3 (λ b. IsFault kind level (read_by One kind level c1 b) e)
            → (IsTrue f0 → t1 ≡ option_map (after_send Zero (message kind level own0)) t0) → IsReady f0 t0 → end_of (error_of e) ≡ None
        cause t0 Link fault first ready = refl
        cause None (PeerMessage l k place) fault first ready = absurd ready
        cause (Some a) (PeerMessage l k place) fault first ready =
            let d_is : t3 ≡ Some (after_receive Zero (message_length c0) (sent_to a)) =
            third ∙ ap (option_map (after_receive Zero (message_length c0))) (ready_talk f0 a t1 t2 ready.0 first second) in
            let wrong = subst (λ t. IfSome t (λ b. IsFault kind level (read_by One kind level c1 b) (PeerMessage l k place))) d_is fault in
            absurd (not_both own0 place (read_by One kind level c1 (after_receive Zero (message_length c0) (sent_to a)))
            (ap (λ n. read_by One kind level n (after_receive Zero (message_length c0) (sent_to a))) count1 ∙ reads_second a (message_length c0) ready.1) wrong.2)
        cause t0 Memory fault first ready = refl

pub sent_none : (t0 t1 : Option Talk) (sent : List Message) → t1 ≡ t0 → SentPart t0 t1 sent
sent_none t0 t1 sent same = subst (λ t. SentPart t0 t sent) (sym same) (core t0)
  where
    core : (t : Option Talk) → SentPart t t sent
    core None = (0, tt)
    core (Some a) = (0, sym (append-nil a.sent))

pub err_by : {X : Type 0} (r : Result X PairError) (e : ExchangeError) (P : PairError → Type 0)
    → IsErr r × IsErrAnd r (λ p. p ≡ error_of e) → P (error_of e) → IfErr r P
err_by (Ok x) e P h p = tt
err_by (Err q) e P h p = subst P (sym h.1) p

-- sums are told by their elements
pub back : (ss ts : List Sums) → flat ss ≡ flat ts → ss ≡ ts
back ss ts e = sym (unflat-flat ss) ∙ ap unflat e ∙ unflat-flat ts
