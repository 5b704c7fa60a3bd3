-- What passes on a link from one time to another.
use Rattle.std.specs.Prelude.{◌≡◌, ℕ, List, ◌++◌, Option, None, Some, take}
use Rattle.shelf_io.specs.Talks.{Talk}
use Rattle.walk_definitions.specs.Messages.{Message}

-- the list sent grew by these messages, and what each side received by these bytes
pub record Grew (before after : Talk) (sent : List Message) (zero one : List ℕ) : Type 0 where
  pub sent_grew : after.sent ≡ before.sent ++ sent
  pub zero_grew : after.received.zero ≡ before.received.zero ++ zero
  pub one_grew : after.received.one ≡ before.received.one ++ one

-- where a link told, it goes on telling, and this holds of the messages sent and of what each side received
abbrev pub Passed : Option Talk → Option Talk → (List Message → List ℕ → List ℕ → Type 0) → Type 0
Passed None now P = Unit {0}
Passed (Some before) None P = ⊥
Passed (Some before) (Some after) P =
    (sent : List Message) × (zero : List ℕ) × (one : List ℕ) × Grew before after sent zero one × P sent zero one

-- the list sent grew by just these messages
abbrev pub SentMore : Option Talk → Option Talk → List Message → Type 0
SentMore None now sent = Unit {0}
SentMore (Some before) None sent = ⊥
SentMore (Some before) (Some after) sent = after.sent ≡ before.sent ++ sent

-- the list sent grew by the first of these messages, or by all
abbrev pub SentPart : Option Talk → Option Talk → List Message → Type 0
SentPart before now sent = (count : ℕ) × SentMore before now (take count sent)
