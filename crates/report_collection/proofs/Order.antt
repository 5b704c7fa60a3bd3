-- Lists of the same shares in another order make the same batch.
use Rattle.std.proofs.Common.{inl, inr, List, [], ◌∷◌, refl, subst}
use Rattle.std.specs.List.{AllByRecursion}
use Rattle.std.specs.List.Sorted.{IsPermutation}
use Rattle.std.proofs.lemmas.List.Elements.{All-from_recursion, recursion_from_All}
use Rattle.std.proofs.lemmas.List.Sorted.{All-permutation, IsPermutation-sym}
use Rattle.definitions.specs.Evaluation.{Share}
use Rattle.walk_definitions.specs.Laws.{IsAmong, SameShares}

all_in : (ys xs : List Share) → ((s : Share) → IsAmong s ys → IsAmong s xs) → AllByRecursion (λ s. IsAmong s xs) ys
all_in [] xs h = tt
all_in (y ∷ ys) xs h = (h y (inl refl), all_in ys xs (λ s m. h s (inr m)))

one_in : (ys xs : List Share) → AllByRecursion (λ s. IsAmong s xs) ys → (s : Share) → IsAmong s ys → IsAmong s xs
one_in [] xs h s m = absurd m
one_in (y ∷ ys) xs h s (inl e) = subst (λ t. IsAmong t xs) e h.0
one_in (y ∷ ys) xs h s (inr m) = one_in ys xs h.1 s m

over : (xs ys : List Share) → IsPermutation xs ys → (s : Share) → IsAmong s ys → IsAmong s xs
over xs ys p =
    one_in ys xs (recursion_from_All (λ s. IsAmong s xs) ys
    (All-permutation (λ s. IsAmong s xs) xs ys p (All-from_recursion (λ s. IsAmong s xs) xs (all_in xs xs (λ s m. m)))))

pub same_shares : (xs ys : List Share) → IsPermutation xs ys → SameShares xs ys
same_shares xs ys p = (over ys xs (IsPermutation-sym xs ys p), over xs ys p)
