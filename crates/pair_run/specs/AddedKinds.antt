-- The kinds of message whose numbers both sides add.
use Rattle.std.specs.Prelude.{ℕ}
use Rattle.pair_run.specs.declared.kind.AddedKind.{AddedKind}
use Rattle.pair_run.specs.declared.kind.AddedKind.TheVariants.{Sigmas, Totals}

-- the number that a message of the kind begins with
abbrev pub added_number : AddedKind → ℕ
added_number Sigmas = 2
added_number Totals = 3
