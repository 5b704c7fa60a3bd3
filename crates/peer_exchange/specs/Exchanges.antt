-- What a send and a take answer, and what they leave.
use Rattle.std.specs.Prelude.{◌≡◌, ℕ, ◌+◌, ◌*◌, ◌≤◌, List, Option, Result, Err, IfErr, take}
use Rattle.std.specs.Option.{option_map}
use Rattle.definitions.specs.declared.Side.{Side}
use Rattle.shelf_io.specs.declared.refused.Refused.{Refused}
use Rattle.shelf_io.specs.declared.refused.Refused.TheVariants.{Failed, Memory as NoMemory}
use Rattle.shelf_io.specs.Faults.{Rose}
use Rattle.shelf_io.specs.Talks.{Talk, at, after_receive}
use Rattle.walk_definitions.specs.Messages.{taken}
use Rattle.peer_exchange.specs.declared.exchange_error.ExchangeError.{ExchangeError}
use Rattle.peer_exchange.specs.declared.exchange_error.ExchangeError.TheVariants.{Link, PeerMessage, Memory}

-- a link's refusal as an error of the exchange
abbrev pub error_of : Refused → ExchangeError
error_of Failed = Link
error_of NoMemory = Memory

-- what an answer says of the link's count of faults before and after: the count did not fall, and Link comes only where it rose
pub record HasLinkCause {T : Type 0} (before now : ℕ) (result : Result T ExchangeError) : Type 0 where
  pub later : before ≤ now
  pub link : IfErr result (λ e. e ≡ Link → Rose before now)

-- the error lies with no other side
abbrev pub IsOwn : ExchangeError → Type 0
IsOwn Link = Unit {0}
IsOwn (PeerMessage level kind at) = ⊥
IsOwn Memory = Unit {0}

-- the bytes of a message of so many elements
abbrev pub message_length : ℕ → ℕ
message_length count = 7 + 8 * count

-- what a side reads from the first bytes that wait for it, as many as the expected message has, or all where fewer wait
abbrev pub read_by : Side → ℕ → ℕ → ℕ → Talk → Result (List ℕ) ℕ
read_by to kind level count before = taken kind level count (take (message_length count) (at to before.waiting))

-- where bytes read so, an error of the other side has the level, the kind and the offset at fault there
abbrev pub IsFault : ℕ → ℕ → Result (List ℕ) ℕ → ExchangeError → Type 0
IsFault kind level read Link = Unit {0}
IsFault kind level read (PeerMessage level_told kind_told at) = (level_told ≡ level) × (kind_told ≡ kind) × (read ≡ Err at)
IsFault kind level read Memory = Unit {0}

-- a side has received at most so many of the bytes that waited for it, from the front
abbrev pub TakesWithin : Side → ℕ → Option Talk → Option Talk → Type 0
TakesWithin to most before now = (n : ℕ) × (n ≤ most) × (now ≡ option_map (after_receive to n) before)

-- what an error leaves: where the bytes were at fault all of them are gone, else a front of them
abbrev pub Leaves : Side → ℕ → Option Talk → Option Talk → ExchangeError → Type 0
Leaves to most before now Link = TakesWithin to most before now
Leaves to most before now (PeerMessage level kind at) = now ≡ option_map (after_receive to most) before
Leaves to most before now Memory = TakesWithin to most before now
