-- What passed between the two sides of a link.
use Rattle.std.specs.Prelude.{◌≡◌, ℕ, List, [], ◌∷◌, ◌++◌, Option, None, Some, take, drop, if◌then◌else◌}
use Rattle.definitions.specs.declared.Side.{Side}
use Rattle.definitions.specs.declared.Side.TheVariants.{Zero, One}
use Rattle.definitions.specs.Sides.{other_side, is_side}

-- bytes for each side
pub record Ends : Type 0 where
  pub zero : List ℕ
  pub one : List ℕ

-- those of one side
abbrev pub at : Side → Ends → List ℕ
at Zero ends = ends.zero
at One ends = ends.one

-- those of one side are these, and those of the other stay
abbrev pub with_at : Side → List ℕ → Ends → Ends
with_at Zero bytes ends = record { zero = bytes; one = ends.one }
with_at One bytes ends = record { zero = ends.zero; one = bytes }

-- the list sent, as senders with bytes; all bytes that each side has received; and the bytes that wait for each side
pub record Talk : Type 0 where
  pub sent : List (Side × List ℕ)
  pub received : Ends
  pub waiting : Ends

-- what a side has a part of in a message: its bytes where it sent them, else nothing
abbrev pub part_by : Side → Side → List ℕ → List ℕ
part_by side from bytes = if is_side side from then bytes else []

-- all bytes that a side sent
abbrev pub sent_by : Side → List (Side × List ℕ) → List ℕ
sent_by side [] = []
sent_by side (m ∷ ms) = part_by side m.0 m.1 ++ sent_by side ms

-- the last bytes of a list
abbrev pub IsSuffix : List ℕ → List ℕ → Type 0
IsSuffix xs ys = (front : List ℕ) × (ys ≡ front ++ xs)

-- what waits for a side is a suffix of all that the other side sent
abbrev pub IsTrueTalk : Talk → Type 0
IsTrueTalk talk = (side : Side) → IsSuffix (at side talk.waiting) (sent_by (other_side side) talk.sent)

-- nothing waits for either side
abbrev pub IsIdle : Talk → Type 0
IsIdle talk = (side : Side) → at side talk.waiting ≡ []

-- a message was sent, and its bytes wait for the other side
abbrev pub after_send : Side → List ℕ → Talk → Talk
after_send from bytes talk = record {
  sent = talk.sent ++ (from, bytes) ∷ [];
  received = talk.received;
  waiting = with_at (other_side from) (at (other_side from) talk.waiting ++ bytes) talk.waiting;
}

-- a side has received the first n bytes that waited for it
abbrev pub after_receive : Side → ℕ → Talk → Talk
after_receive to n talk = record {
  sent = talk.sent;
  received = with_at to (at to talk.received ++ take n (at to talk.waiting)) talk.received;
  waiting = with_at to (drop n (at to talk.waiting)) talk.waiting;
}

-- where a link tells, it goes on telling, the list sent has one more, and what was received stays
abbrev pub Sends : Side → List ℕ → Option Talk → Option Talk → Type 0
Sends from bytes None now = Unit {0}
Sends from bytes (Some before) None = ⊥
Sends from bytes (Some before) (Some after) = (after.sent ≡ before.sent ++ (from, bytes) ∷ []) × (after.received ≡ before.received)
