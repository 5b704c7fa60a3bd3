use Rattle.std.proofs.Common.{◌≡◌, ℕ, ◌<◌, [], length, slice_index_or, None}
use Rattle.std.specs.Prelude.{IsNone}
use Rattle.idpf_lanes.proofs.found_nodes.want.Given as goal

abbrev pub invariant-loop-k : goal.invariant-loop-k
invariant-loop-k l = record {
  same : length l.wanted ≡ length l.prefixes;
  last : length l.last ≡ l.level;
  bits : (j : ℕ) → j < l.k → length (slice_index_or l.wanted j []) ≡ l.level;
  missing : (j : ℕ) → j < l.k → IsNone (slice_index_or l.found j None) → slice_index_or l.wanted j [] ≡ slice_index_or l.prefixes j [];
}
