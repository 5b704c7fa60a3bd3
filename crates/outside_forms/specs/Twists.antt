-- What a link does to one message on its way.
use Rattle.std.specs.Prelude.{◌≡◌, ℕ, ◌+◌, ◌*◌, ◌==◌, if◌then◌else◌, List, [], ◌∷◌, ◌++◌, length, map, take, drop, slice_set, slice_range, nat_lt, nat_le}
use Rattle.std.specs.Int.{w64, to_le_bytes, from_le_bytes}
use Rattle.definitions.specs.declared.Side.{Side}
use Rattle.definitions.specs.Field.{modulus, add}
use Rattle.shelf_io.specs.Messages.{Kept, talk_of}
use Rattle.shelf_io.specs.Talks.{Talk, after_send}
use Rattle.outside_forms.specs.declared.sent_messages.Sent.{Sent}
use Rattle.outside_forms.specs.declared.twist.Twist.{Twist}
use Rattle.outside_forms.specs.declared.twist.Twist.TheVariants.{Byte, Raise}

-- ---- one message

-- the place of an element of a message, behind the heading of 7 bytes
abbrev pub place_of : ℕ → ℕ
place_of element = 7 + 8 * element

-- eight bytes whose number is raised by 1 modulo the modulus; where it is no element, they stay
abbrev pub raised : List ℕ → List ℕ
raised bytes = if nat_lt (from_le_bytes w64 bytes) modulus then to_le_bytes w64 (add (from_le_bytes w64 bytes) 1) else bytes

-- what a twist makes of a message; where the message has no such byte or element, it stays
abbrev pub twisted : Twist → List ℕ → List ℕ
twisted (Byte at value) bytes = if nat_lt at (length bytes) then slice_set bytes at value else bytes
twisted (Raise element) bytes =
    if nat_le (place_of element + 8) (length bytes)
    then take (place_of element) bytes ++ (raised (slice_range bytes (place_of element) (place_of element + 8)) ++ drop (place_of element + 8) bytes)
    else bytes

-- ---- a link

-- the list sent, what passed, which message is twisted and how
pub record Twisting : Type 0 where
  pub sent : List (Side × List ℕ)
  pub passed : Kept
  pub message : ℕ
  pub twist : Twist

abbrev pub pairs_of : List Sent → List (Side × List ℕ)
pairs_of messages = map (λ m. (m.from, m.bytes.items)) messages

abbrev pub with_sent : List (Side × List ℕ) → Talk → Talk
with_sent sent talk = record { sent = sent; received = talk.received; waiting = talk.waiting }

-- what it tells: the list sent as it was sent, and what was received and waits as it passed
abbrev pub talk_on : Twisting → Talk
talk_on link = with_sent link.sent (talk_of link.passed)

-- what passes of the next message
abbrev pub passing : Twisting → List ℕ → List ℕ
passing link bytes = if length link.sent == link.message then twisted link.twist bytes else bytes

-- a message was sent: the list sent has it as it is, and what passes of it waits for the other side
pub record Passes (from : Side) (bytes : List ℕ) (before now : Twisting) : Type 0 where
  pub talk : talk_on now ≡ with_sent (before.sent ++ (from, bytes) ∷ []) (after_send from (passing before bytes) (talk_on before))
  pub message : now.message ≡ before.message
  pub twist : now.twist ≡ before.twist

-- the twist and the list sent are as before
pub record Stays (before now : Twisting) : Type 0 where
  pub sent : now.sent ≡ before.sent
  pub message : now.message ≡ before.message
  pub twist : now.twist ≡ before.twist
