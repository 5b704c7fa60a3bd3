use Rattle.std.proofs.Common.{◌≡◌, ◌≤◌, ◌+◌, ◌++◌, length, map, vec_len, vec_capacity}
use Rattle.lock_row.specs.Rows.{locks_of}
use Rattle.eval_cache.proofs.pass.passes_of.Given as goal

abbrev pub invariant-loop-row : goal.invariant-loop-row
invariant-loop-row l =
    (l.made.items ++ map locks_of l.row-iterator.rest.items ≡ map locks_of l.fn.rows.items)
    × (vec_len l.made + length l.row-iterator.rest.items ≤ vec_capacity l.made)
