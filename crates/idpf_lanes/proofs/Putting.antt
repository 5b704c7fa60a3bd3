-- Nodes that are put in place of others.
use Rattle.std.proofs.Common.{◌≡◌, ℕ, suc, ◌<◌, Bool, List, [], ◌∷◌, length, map, refl, ap₂, arith, slice_index_or}
use Rattle.definitions.specs.Evaluation.{Node}
use Rattle.node_growth.specs.Steps.{no_node}

-- a list is what f makes of another one where it is at each place
pub same_at_all : (f : List Bool → Node) (qs : List (List Bool)) (ns : List Node) → length ns ≡ length qs
    → ((k : ℕ) → k < length qs → slice_index_or ns k no_node ≡ f (slice_index_or qs k [])) → ns ≡ map f qs
same_at_all f [] [] long at = refl
same_at_all f [] (n ∷ ns) long at = absurd (omega arith)
same_at_all f (q ∷ qs) [] long at = absurd (omega arith)
same_at_all f (q ∷ qs) (n ∷ ns) long at =
    ap₂ (λ m ms. m ∷ ms) (at 0 (omega arith)) (same_at_all f qs ns (omega arith) (λ k h. at (suc k) (omega arith)))
