-- The bytes of elements, one more at a time.
use Rattle.std.proofs.Common.{◌≡◌, ℕ, ◌+◌, ◌<◌, List, [], ◌∷◌, ◌++◌, length, take, get_or, sym, ◌∙◌, ap, append_assoc, append-nil}
use Rattle.std.specs.Int.{w64, to_le_bytes}
use Rattle.std.proofs.lemmas.List.{take_more}
use Rattle.walk_definitions.specs.Messages.{spelled}

pub spelled-push : (ns : List ℕ) (n : ℕ) → spelled (ns ++ n ∷ []) ≡ spelled ns ++ to_le_bytes w64 n
spelled-push [] n = append-nil (to_le_bytes w64 n)
spelled-push (m ∷ ns) n = ap (λ xs. to_le_bytes w64 m ++ xs) (spelled-push ns n) ∙ sym (append_assoc (to_le_bytes w64 m) (spelled ns) (to_le_bytes w64 n))

-- a message's bytes so far, behind a heading, with the bytes of one more element
pub spelled-more : (head old new bytes ns : List ℕ) (i n d : ℕ) → i < length ns → old ≡ head ++ spelled (take i ns)
    → new ≡ old ++ bytes → bytes ≡ to_le_bytes w64 n → n ≡ get_or ns i d → new ≡ head ++ spelled (take (i + 1) ns)
spelled-more head old new bytes ns i n d inside so_far added written here =
    added ∙ ap (λ xs. xs ++ bytes) so_far ∙ ap (λ xs. (head ++ spelled (take i ns)) ++ xs) (written ∙ ap (to_le_bytes w64) here)
    ∙ append_assoc head (spelled (take i ns)) (to_le_bytes w64 (get_or ns i d))
    ∙ ap (λ xs. head ++ xs) (sym (spelled-push (take i ns) (get_or ns i d)) ∙ ap spelled (sym (take_more ns i d inside)))
