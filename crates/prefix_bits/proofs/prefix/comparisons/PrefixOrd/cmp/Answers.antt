use Rattle.prefix_bits.specs.declared.TheConstants.{MOST_BITS}
use Rattle.prefix_bits.specs.declared.prefix.TheConstants.{WORDS}
use Rattle.prefix_bits.proofs.Order.{stored_compare}
use Rattle.prefix_bits.proofs.prefix.comparisons.PrefixOrd.cmp.Goals as goal

pub returns : goal.returns
returns c =
    let s = stored_compare WORDS MOST_BITS c.self.inside.words c.self.inside.len c.other.inside.words c.other.inside.len c.self.invariant c.other.invariant in
    rw (← c.self.view_is, ← c.other.view_is, c.then.ensures, c.cmp.ensures, c.cmp-2.ensures) s
