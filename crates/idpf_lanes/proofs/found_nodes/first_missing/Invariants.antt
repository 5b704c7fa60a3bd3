use Rattle.std.proofs.Common.{ℕ, ◌<◌, slice_index_or, None, IsSome}
use Rattle.idpf_lanes.proofs.found_nodes.first_missing.Given as goal

abbrev pub invariant-loop-k : goal.invariant-loop-k
invariant-loop-k l = record { found : (j : ℕ) → j < l.k → IsSome (slice_index_or l.found j None) }
