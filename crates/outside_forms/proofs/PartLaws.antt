-- What a call on a front of a slice did, said of the whole slice.
use Rattle.std.proofs.Common.{◌≡◌, ℕ, ◌≤◌, List, ◌++◌, length, take, drop, sym, ap, ◌∙◌}
use Rattle.std.specs.Prelude.{Result, Ok, Err, IfOk}
use Rattle.std.proofs.lemmas.List.{take-append-drop, drop-append-le}
use Rattle.shelf_io.specs.declared.refused.Refused.{Refused}

rest_of_part : (n k : ℕ) (new old : List ℕ) → n ≤ length new → n ≤ length (take k old) → drop n new ≡ drop n (take k old)
    → drop n (new ++ drop k old) ≡ drop n old
rest_of_part n k new old inside few left =
    drop-append-le n new (drop k old) inside
    ∙ ap (λ xs. xs ++ drop k old) left
    ∙ sym (drop-append-le n (take k old) (drop k old) few)
    ∙ ap (drop n) (take-append-drop k old)

-- behind what was read into a front of the slice, the slice is as it was
pub rest_read : (result : Result ℕ Refused) (k : ℕ) (new old : List ℕ) → IfOk result (λ n. n ≤ length new) → IfOk result (λ n. n ≤ length (take k old))
    → IfOk result (λ n. drop n new ≡ drop n (take k old)) → IfOk result (λ n. drop n (new ++ drop k old) ≡ drop n old)
rest_read (Ok n) k new old inside few left = rest_of_part n k new old inside few left
rest_read (Err e) k new old inside few left = tt
