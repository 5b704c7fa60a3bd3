-- A link in memory that loses nothing: it keeps the list sent, and what waits for a side is the last part of what the other sent.
use Rattle.std.specs.Prelude.{◌≡◌, ℕ, ◌-◌, List, length, map, take, drop}
use Rattle.std.proofs.lemmas.List.{take-append-drop}
use mathlib.Core.Path.{sym}
use Rattle.definitions.specs.declared.Side.{Side}
use Rattle.definitions.specs.declared.Side.TheVariants.{Zero, One}
use Rattle.shelf_io.specs.declared.messages.Message.{Message}
use Rattle.shelf_io.specs.Talks.{Talk, sent_by, IsTrueTalk}

-- the list sent, and for each side how many bytes wait for it
pub record Kept : Type 0 where
  pub sent : List (Side × List ℕ)
  pub zero : ℕ
  pub one : ℕ

-- the last n bytes, and those before them
abbrev pub last : ℕ → List ℕ → List ℕ
last n bytes = drop (length bytes - n) bytes

abbrev pub all_but : ℕ → List ℕ → List ℕ
all_but n bytes = take (length bytes - n) bytes

-- what passed: of all that was sent to a side, the last bytes wait and those before them were received
abbrev pub talk_of : Kept → Talk
talk_of kept = record {
  sent = kept.sent;
  received = record { zero = all_but kept.zero (sent_by One kept.sent); one = all_but kept.one (sent_by Zero kept.sent) };
  waiting = record { zero = last kept.zero (sent_by One kept.sent); one = last kept.one (sent_by Zero kept.sent) };
}

abbrev pub messages_of : List Message → List (Side × List ℕ)
messages_of messages = map (λ m. (m.from, m.bytes.items)) messages

-- of a link's two queues, that each is the last part of what the other side sent
pub record AreLast (sent : List (Side × List ℕ)) (zero one : List ℕ) : Type 0 where
  pub of_one : zero ≡ last (length zero) (sent_by One sent)
  pub of_zero : one ≡ last (length one) (sent_by Zero sent)

-- so such a link is true
pub true_talk : (kept : Kept) → IsTrueTalk (talk_of kept)
true_talk kept Zero = (all_but kept.zero (sent_by One kept.sent), sym (take-append-drop (length (sent_by One kept.sent) - kept.zero) (sent_by One kept.sent)))
true_talk kept One = (all_but kept.one (sent_by Zero kept.sent), sym (take-append-drop (length (sent_by Zero kept.sent) - kept.one) (sent_by Zero kept.sent)))
