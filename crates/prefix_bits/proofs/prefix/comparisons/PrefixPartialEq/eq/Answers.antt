use Rattle.std.proofs.Common.{◌∙◌, sym}
use Rattle.prefix_bits.specs.declared.TheConstants.{MOST_BITS}
use Rattle.prefix_bits.specs.declared.prefix.TheConstants.{WORDS}
use Rattle.prefix_bits.proofs.Order.{equal_words, other_words}
use Rattle.prefix_bits.proofs.prefix.comparisons.PrefixPartialEq.eq.Goals as goal

pub returns-then-eq : goal.returns-then-eq
returns-then-eq c =
    rw (← c.self.view_is, ← c.other.view_is)
    (equal_words WORDS MOST_BITS c.self.inside.words c.self.inside.len c.other.inside.words c.other.inside.len c.self.invariant c.other.invariant
    (sym c.eq.ensures ∙ c.if-eq.true))

pub returns-else-eq : goal.returns-else-eq
returns-else-eq c =
    rw (← c.self.view_is, ← c.other.view_is)
    (c.eq.ensures ∙ other_words WORDS MOST_BITS c.self.inside.words c.self.inside.len c.other.inside.words c.other.inside.len c.self.invariant c.other.invariant
    (sym c.eq.ensures ∙ c.if-eq.false))
