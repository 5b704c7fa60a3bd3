use Rattle.std.proofs.Common.{◌≡◌, take}
use Rattle.prefix_bits.specs.Bits.{bits_of_bytes}
use Rattle.prefix_bits.proofs.prefix.Prefix.of_bytes.Given as goal

abbrev pub invariant-loop-byte : goal.invariant-loop-byte
invariant-loop-byte l = l.prefix ≡ bits_of_bytes (take l.byte-index l.bytes)
