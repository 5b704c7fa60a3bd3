-- The kinds of message.
use Rattle.std.specs.Prelude.{ℕ}
use Rattle.peer_exchange.specs.declared.kind.Kind.{Kind}
use Rattle.peer_exchange.specs.declared.kind.Kind.TheVariants.{Sums, Sigmas, Totals}

-- the number that a message of the kind begins with
abbrev pub kind_number : Kind → ℕ
kind_number Sums = 1
kind_number Sigmas = 2
kind_number Totals = 3
