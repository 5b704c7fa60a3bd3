use Rattle.std.proofs.Common.{◌≡◌, drop}
use Rattle.lock_row.specs.Columns.{heads}
use Rattle.lock_row.proofs.Handing.{HandedFrom}
use Rattle.lock_row.proofs.rows.end_column.Given as goal

abbrev pub invariant-loop-number : goal.invariant-loop-number
invariant-loop-number g l =
    HandedFrom l.number l.fn.rows.items l.rows.items
    × (l.ending ≡ record { lock = l.fn.turn.lock; passes = l.fn.turn.passes; handed = heads (drop l.number l.fn.rows.items) })

abbrev pub decreases-loop-number : goal.decreases-loop-number
decreases-loop-number g l = l.number
