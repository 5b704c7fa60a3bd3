use Rattle.std.proofs.Common.{refl}
use Rattle.prefix_bits.specs.Stored.{stored_bits}
use Rattle.prefix_bits.proofs.StoredLists.{IsStored-zeros}
use Rattle.prefix_bits.specs.declared.TheConstants.{MOST_BITS}
use Rattle.prefix_bits.specs.declared.prefix.TheConstants.{WORDS}
use Rattle.prefix_bits.proofs.prefix.Prefix.empty.Goals as goal

pub invariant_of-result : goal.invariant_of-result
invariant_of-result c = IsStored-zeros WORDS MOST_BITS _ refl refl

pub returns : goal.returns
unfolding stored_bits
returns c = refl
