-- What a message adds, and what a send and a receive change.
use Rattle.std.proofs.Common.{◌≡◌, ℕ, ◌++◌, List, [], ◌∷◌, take, drop, refl, sym, ap, ◌∙◌, append_assoc, append-nil}
use Rattle.definitions.specs.declared.Side.{Side}
use Rattle.definitions.specs.declared.Side.TheVariants.{Zero, One}
use Rattle.definitions.specs.Sides.{other_side}
use Rattle.shelf_io.specs.Talks.{Talk, Ends, at, with_at, part_by, sent_by, after_send, after_receive}

-- all that a side sent, after one more message
pub sent_by-more : (side from : Side) (bytes : List ℕ) (ms : List (Side × List ℕ)) → sent_by side (ms ++ (from, bytes) ∷ []) ≡ sent_by side ms ++ part_by side from bytes
sent_by-more side from bytes [] = append-nil (part_by side from bytes)
sent_by-more side from bytes (m ∷ ms) = ap (λ xs. part_by side m.0 m.1 ++ xs) (sent_by-more side from bytes ms) ∙ sym (append_assoc (part_by side m.0 m.1) (sent_by side ms) (part_by side from bytes))

-- what is put in for a side is there, and the other side's stays
pub at-with_at : (side : Side) (bytes : List ℕ) (ends : Ends) → at side (with_at side bytes ends) ≡ bytes
at-with_at Zero bytes ends = refl
at-with_at One bytes ends = refl

pub at-with_at_other : (side : Side) (bytes : List ℕ) (ends : Ends) → at (other_side side) (with_at side bytes ends) ≡ at (other_side side) ends
at-with_at_other Zero bytes ends = refl
at-with_at_other One bytes ends = refl

pub other_side-twice : (side : Side) → other_side (other_side side) ≡ side
other_side-twice Zero = refl
other_side-twice One = refl

-- a message waits for the other side, behind what waited, and what waits for its sender stays
pub waiting-sent : (from : Side) (bytes : List ℕ) (talk : Talk) → at (other_side from) (after_send from bytes talk).waiting ≡ at (other_side from) talk.waiting ++ bytes
waiting-sent from bytes talk = at-with_at (other_side from) (at (other_side from) talk.waiting ++ bytes) talk.waiting

pub waiting-sent_own : (from : Side) (bytes : List ℕ) (talk : Talk) → at from (after_send from bytes talk).waiting ≡ at from talk.waiting
waiting-sent_own Zero bytes talk = refl
waiting-sent_own One bytes talk = refl

-- what was received and what waits, after a receive of n bytes; the other side's stays
pub received-received : (to : Side) (n : ℕ) (talk : Talk) → at to (after_receive to n talk).received ≡ at to talk.received ++ take n (at to talk.waiting)
received-received to n talk = at-with_at to (at to talk.received ++ take n (at to talk.waiting)) talk.received

pub received-received_other : (to : Side) (n : ℕ) (talk : Talk) → at (other_side to) (after_receive to n talk).received ≡ at (other_side to) talk.received
received-received_other to n talk = at-with_at_other to (at to talk.received ++ take n (at to talk.waiting)) talk.received

pub waiting-received : (to : Side) (n : ℕ) (talk : Talk) → at to (after_receive to n talk).waiting ≡ drop n (at to talk.waiting)
waiting-received to n talk = at-with_at to (drop n (at to talk.waiting)) talk.waiting

pub waiting-received_other : (to : Side) (n : ℕ) (talk : Talk) → at (other_side to) (after_receive to n talk).waiting ≡ at (other_side to) talk.waiting
waiting-received_other to n talk = at-with_at_other to (drop n (at to talk.waiting)) talk.waiting

-- what a send on a true link did is what every link owes
pub sends_of : (from : Side) (bytes : List ℕ) (before after : Talk) → after ≡ after_send from bytes before
    → (after.sent ≡ before.sent ++ (from, bytes) ∷ []) × (after.received ≡ before.received)
sends_of from bytes before after e = (ap (λ (t : Talk). t.sent) e, ap (λ (t : Talk). t.received) e)
