-- What the writer of a record cites.
use Rattle.std.proofs.Common.{◌≡◌, ℕ, ◌+◌, ◌<◌, List, [], ◌∷◌, ◌++◌, length, take, get_or, sym, ap, ◌∙◌, append_assoc}
use Rattle.std.specs.List.{flat_map}
use Rattle.std.proofs.lemmas.List.{append-nil, take_more}
use Rattle.std.proofs.lemmas.List.Concat.{flat_map-append}
use Rattle.definitions.specs.Evaluation.{LevelWord}
use Rattle.share_format.specs.Spelling.{block}

-- six texts appended one after another
pub six_added : (old seed : List ℕ) (bits : ℕ) (u v a b n₁ n₂ n₃ n₄ n₅ n₆ : List ℕ) → n₁ ≡ old ++ seed → n₂ ≡ n₁ ++ bits ∷ [] → n₃ ≡ n₂ ++ u
    → n₄ ≡ n₃ ++ v → n₅ ≡ n₄ ++ a → n₆ ≡ n₅ ++ b → n₆ ≡ old ++ (seed ++ (bits ∷ (u ++ (v ++ (a ++ b)))))
six_added old seed bits u v a b n₁ n₂ n₃ n₄ n₅ n₆ e f g h i j = rw (j, i, h, g, f, e) (simp append_assoc)

-- three texts appended one after another
pub three_added : (old id root corr n₁ n₂ n₃ : List ℕ) → n₁ ≡ old ++ id → n₂ ≡ n₁ ++ root → n₃ ≡ n₂ ++ corr → n₃ ≡ old ++ (id ++ (root ++ (corr ++ [])))
three_added old id root corr n₁ n₂ n₃ e f g = rw (g, f, e, append-nil) (simp append_assoc)

-- one more block
pub block_added : (old id root corr now next : List ℕ) (words : List LevelWord) (place : ℕ) (word : LevelWord) → place < length words
    → now ≡ old ++ (id ++ (root ++ (corr ++ flat_map block (take place words)))) → next ≡ now ++ block word → word ≡ get_or words place word
    → next ≡ old ++ (id ++ (root ++ (corr ++ flat_map block (take (place + 1) words))))
block_added old id root corr now next words place word p e f is_it =
    let step : flat_map block (take (place + 1) words) ≡ flat_map block (take place words) ++ block word =
    ap (λ (ws : List LevelWord). flat_map block ws) (take_more words place word p)
    ∙ flat_map-append block (take place words) (get_or words place word ∷ [])
    ∙ ap (λ (t : List ℕ). flat_map block (take place words) ++ t) (append-nil (block (get_or words place word)) ∙ ap block (sym is_it)) in
    rw (f, e, step) (simp append_assoc)
