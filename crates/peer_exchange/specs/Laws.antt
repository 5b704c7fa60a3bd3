-- What holds of messages and of receives, for those who exchange several.
use Rattle.std.specs.Prelude.{◌≡◌, ℕ, ◌+◌, ◌<◌, List, ◌++◌, Ok, length, take, min}
use Rattle.std.specs.List.{All}
use Rattle.definitions.specs.declared.Side.{Side}
use Rattle.definitions.specs.Field.{modulus}
use Rattle.definitions.specs.Sketch.{Sums}
use Rattle.shelf_io.specs.Talks.{Talk, at, after_receive}
use Rattle.walk_definitions.specs.Messages.{message, flat, taken}
use Rattle.walk_definitions.specs.Heard.{unflat}
use Rattle.peer_exchange.specs.Exchanges.{message_length, read_by}

-- where the expected message waits first, a side reads its elements
abbrev pub ExpectedLaw : Type 0
ExpectedLaw = (to : Side) (kind level : ℕ) (numbers rest : List ℕ) (before : Talk) → All (λ n. n < modulus) numbers
    → at to before.waiting ≡ message kind level numbers ++ rest → read_by to kind level (length numbers) before ≡ Ok numbers

-- what is read does not depend on the bytes behind the message
abbrev pub FrontLaw : Type 0
FrontLaw = (kind level count : ℕ) (bytes : List ℕ) → taken kind level count (take (message_length count) bytes) ≡ taken kind level count bytes

-- two receives are one of both numbers
abbrev pub TwiceLaw : Type 0
TwiceLaw = (to : Side) (m n : ℕ) (talk : Talk) → after_receive to n (after_receive to m talk) ≡ after_receive to (m + n) talk

-- a receive of more bytes than wait is one of those that wait
abbrev pub WaitingLaw : Type 0
WaitingLaw = (to : Side) (m : ℕ) (talk : Talk) → after_receive to (min m (length (at to talk.waiting))) talk ≡ after_receive to m talk

-- the elements of sums give the sums back
abbrev pub ElementsLaw : Type 0
ElementsLaw = (sums : List Sums) → unflat (flat sums) ≡ sums
