-- What is found of a report, and where.
use Rattle.std.proofs.Common.{◌≡◌, ℕ, ◌<◌, Bool, List, [], length, sym, ◌∙◌, ap, subst, arith, Option, None, slice_index_or, slice_set}
use Rattle.std.specs.Prelude.{IfSome}
use Rattle.std.specs.Ordering.{is_eq}
use Rattle.std.specs.declared.cmp.Ordering.TheVariants.{Equal}
use Rattle.std.proofs.lemmas.Grind.{get_or-set_at}
use Rattle.std.proofs.lemmas.List.{get_or-set_other, length-set}
use mathlib.Core.Logic.{dite}
use native.Mathlib.Decide.{ℕ_discrete}
use Rattle.definitions.specs.declared.Side.{Side}
use Rattle.definitions.specs.Evaluation.{Share, Node, node}
use Rattle.prefix_bits.specs.Bits.{bits_cmp}
use Rattle.prefix_bits.specs.Orders.{bits_decide, bits_ties}
use Rattle.idpf_lanes.specs.Stands.{AreFound}

-- prefixes that the order does not tell apart are the same
pub tied_are_same : (p q : List Bool) → bits_cmp p q ≡ Equal → p ≡ q
tied_are_same p q tied = (bits_decide p q).0 (bits_ties p q ∙ ap is_eq tied)

-- what is put at a place is of the prefix there
pub found_put : (share : Share) (side : Side) (prefixes : List (List Bool)) (found : List (Option Node)) (k : ℕ) (put : Option Node) → k < length found
    → IfSome put (λ n. n ≡ node share side (slice_index_or prefixes k [])) → AreFound share side prefixes found
    → AreFound share side prefixes (slice_set found k put)
found_put share side prefixes found k put room own all = λ j h. dite (ℕ_discrete j k)
    (λ same. subst (λ (o : Option Node). IfSome o (λ n. n ≡ node share side (slice_index_or prefixes j []))) (sym (get_or-set_at found k j put None same room))
    (subst (λ (i : ℕ). IfSome put (λ n. n ≡ node share side (slice_index_or prefixes i []))) (sym same) own))
    (λ other. subst (λ (o : Option Node). IfSome o (λ n. n ≡ node share side (slice_index_or prefixes j []))) (sym (get_or-set_other found k j put None other))
    (all j (omega (arith, h, length-set found k put))))
