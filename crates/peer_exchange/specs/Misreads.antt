-- Why bytes were not read as a message.
use Rattle.std.specs.Prelude.{◌≡◌, ℕ, List, Result, Err}
use Rattle.peer_exchange.specs.declared.misread.Misread.{Misread}
use Rattle.peer_exchange.specs.declared.misread.Misread.TheVariants.{At, Memory}

-- where bytes read so, an offset is the one at fault there
abbrev pub IsMisread : Result (List ℕ) ℕ → Misread → Type 0
IsMisread read (At at) = read ≡ Err at
IsMisread read Memory = Unit {0}
