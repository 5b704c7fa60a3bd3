-- Lists of the same shares in another order, as parts of them move.
use Rattle.std.proofs.Common.{◌≡◌, ℕ, List, [], ◌++◌, take, drop, refl, sym, ◌∙◌, ap, subst, append_assoc}
use Rattle.std.proofs.lemmas.List.{take-append-drop}
use Rattle.std.specs.List.Sorted.{IsPermutation}
use Rattle.std.proofs.lemmas.List.Sorted.{IsPermutation-trans, IsPermutation-append_left, IsPermutation-append_right, IsPermutation-append_comm}

module _ {X : Type 0} where
  -- a part goes from the end of the first list to the end of the second
  pub moved : (whole a x b first second : List X) → first ≡ a ++ x → second ≡ b ++ x → IsPermutation whole (first ++ b) → IsPermutation whole (a ++ second)
  moved whole a x b first second e f h =
      let cut : first ++ b ≡ a ++ (x ++ b) = ap (λ l. l ++ b) e ∙ append_assoc a x b in
      let swapped = IsPermutation-append_right a (x ++ b) (b ++ x) (IsPermutation-append_comm x b) in
      subst (λ l. IsPermutation whole (a ++ l)) (sym f) (IsPermutation-trans _ _ _ (subst (IsPermutation whole) cut h) swapped)

  pub split_moved : (whole list b second : List X) (n : ℕ) → second ≡ b ++ drop n list → IsPermutation whole (list ++ b) → IsPermutation whole (take n list ++ second)
  split_moved whole list b second n f h = moved whole (take n list) (drop n list) b list second (sym (take-append-drop n list)) f h

  -- the last part goes there whole
  pub all_moved : (whole list b second : List X) → second ≡ b ++ list → IsPermutation whole (list ++ b) → IsPermutation whole second
  all_moved whole list b second f h = moved whole [] list b list second refl f h

  -- the two middle ones of four parts change places
  pub interchanged : (a b c d : List X) → IsPermutation ((a ++ b) ++ (c ++ d)) ((a ++ c) ++ (b ++ d))
  interchanged a b c d =
      let left : (a ++ b) ++ (c ++ d) ≡ a ++ ((b ++ c) ++ d) = append_assoc a b (c ++ d) ∙ ap (λ l. a ++ l) (sym (append_assoc b c d)) in
      let right : a ++ ((c ++ b) ++ d) ≡ (a ++ c) ++ (b ++ d) = ap (λ l. a ++ l) (append_assoc c b d) ∙ sym (append_assoc a c (b ++ d)) in
      let swapped = IsPermutation-append_right a ((b ++ c) ++ d) ((c ++ b) ++ d) (IsPermutation-append_left d (b ++ c) (c ++ b) (IsPermutation-append_comm b c)) in
      subst (λ l. IsPermutation l ((a ++ c) ++ (b ++ d))) (sym left) (subst (IsPermutation (a ++ ((b ++ c) ++ d))) right swapped)

  pub both_permuted : (xs ys us vs : List X) → IsPermutation xs ys → IsPermutation us vs → IsPermutation (xs ++ us) (ys ++ vs)
  both_permuted xs ys us vs h i = IsPermutation-trans _ _ _ (IsPermutation-append_left us xs ys h) (IsPermutation-append_right ys us vs i)
