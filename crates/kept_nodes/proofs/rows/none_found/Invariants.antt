use Rattle.std.proofs.Common.{◌≡◌, ℕ, ◌<◌, length, slice_index_or, None}
use Rattle.kept_nodes.proofs.rows.none_found.Given as goal

abbrev pub invariant-loop-k : goal.invariant-loop-k
invariant-loop-k l = record {
  same : length l.found ≡ length l.initial.found;
  none : (j : ℕ) → j < l.k → slice_index_or l.found j None ≡ None;
}
