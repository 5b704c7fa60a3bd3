use Rattle.std.proofs.Common.{◌≡◌, ℕ, ◌<◌, get_or}
use Rattle.prefix_bits.proofs.Bytes.{stored_byte}
use Rattle.prefix_bits.proofs.prefix.Prefix.to_bytes.Given as goal

abbrev pub invariant-loop-index : goal.invariant-loop-index
invariant-loop-index l = (k : ℕ) → k < l.index → get_or l.into k 0 ≡ stored_byte l.self-inside.words k
