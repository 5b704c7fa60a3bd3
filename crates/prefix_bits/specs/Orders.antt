-- The order of lists of bits is a total order, and equal lists are those that it does not tell apart.
use Rattle.std.specs.Prelude.{◌≡◌, Bool, true, false, List, refl}
use Rattle.std.specs.Bool.{Decides, beq}
use Rattle.std.specs.Cmp.{IsTotalOrder, IsPartialOrder, IsEquivalence, IsPartialEquivalence, bool_cmp_total, bool_eq_equiv, booleans_Decides, partial_equiv_from_equiv, partial_order_from_agreeing_total}
use Rattle.std.specs.Cmp.Lexicographic.{lists_total, lists_equiv, lists_ties, pointwise_decides}
use Rattle.std.specs.Ordering.{bool_cmp, eq_by_cmp, as_partial_cmp}
use Rattle.prefix_bits.specs.Bits.{bits_eq, bits_cmp}

pub bits_equivalence : IsEquivalence bits_eq
bits_equivalence = lists_equiv bool_eq_equiv

pub bits_partial_equivalence : IsPartialEquivalence bits_eq
bits_partial_equivalence = partial_equiv_from_equiv bits_equivalence

-- the test is true exactly where the lists are equal
pub bits_decide : (p q : List Bool) → Decides (bits_eq p q) (p ≡ q)
bits_decide = pointwise_decides booleans_Decides

pub bits_total : IsTotalOrder bits_cmp
bits_total = lists_total bool_cmp_total

bool_ties : (a b : Bool) → beq a b ≡ eq_by_cmp bool_cmp a b
bool_ties false false = refl
bool_ties false true = refl
bool_ties true false = refl
bool_ties true true = refl

pub bits_ties : (p q : List Bool) → bits_eq p q ≡ eq_by_cmp bits_cmp p q
bits_ties = lists_ties bool_cmp bool_ties

pub bits_partial_order : IsPartialOrder bits_eq (as_partial_cmp bits_cmp)
bits_partial_order = partial_order_from_agreeing_total bits_cmp bits_total (λ p q. refl) bits_ties
