-- Laws of evaluation.
use Rattle.std.proofs.Common.{◌≡◌, ℕ, ◌+◌, ◌-◌, ◌<◌, ◌≤◌, Bool, false, List, [], ◌∷◌, ◌++◌, Some, length, drop, refl, sym, ◌∙◌, ap, arith}
use Rattle.std.proofs.lemmas.List.{drop_all, drop_more}
use Rattle.std.proofs.lemmas.Option.{get_or_from_slice_get}
use Rattle.std.specs.Prelude.{slice_get, slice_index_or}
use Rattle.definitions.specs.declared.Side.{Side}
use Rattle.definitions.specs.Evaluation.{LevelWord, Node, child, descend, no_word, root}
use Rattle.definitions.specs.Laws.{RootLaw, ChildLaw}

pub descend-nil : (words : List LevelWord) (side : Side) (node : Node) → descend words side node [] ≡ node
unfolding descend
descend-nil [] side node = refl
descend-nil (word ∷ words) side node = refl

pub descend-cons : (word : LevelWord) (words : List LevelWord) (side : Side) (node : Node) (bit : Bool) (bits : List Bool)
    → descend (word ∷ words) side node (bit ∷ bits) ≡ descend words side (child word side node bit) bits
unfolding descend
descend-cons word words side node bit bits = refl

-- no bit is left
pub descend-end : (words : List LevelWord) (side : Side) (node : Node) (bits : List Bool) (k : ℕ) → length bits ≤ k
    → descend words side node (drop k bits) ≡ node
descend-end words side node bits k h = ap (descend words side node) (drop_all k bits h) ∙ descend-nil words side node

-- one more bit
pub descend-step : (words : List LevelWord) (side : Side) (node next : Node) (bits : List Bool) (k j : ℕ) (bit : Bool)
    → j ≡ k → k < length words → k < length bits → slice_get bits k ≡ Some bit
    → next ≡ child (slice_index_or words j no_word) side node bit
    → descend (drop (k + 1) words) side next (drop (k + 1) bits) ≡ descend (drop k words) side node (drop k bits)
descend-step words side node next bits k j bit same p q e f =
    let word = slice_index_or words k no_word in
    let next_is : next ≡ child word side node bit = f ∙ ap (λ i. child (slice_index_or words i no_word) side node bit) same in
    let bit_is : slice_index_or bits k false ≡ bit = get_or_from_slice_get bits k bit false e in
    let split : descend (drop k words) side node (drop k bits) ≡ descend (word ∷ drop (k + 1) words) side node (bit ∷ drop (k + 1) bits)
    = ap (λ ws. descend ws side node (drop k bits)) (drop_more words k no_word p)
    ∙ ap (λ bs. descend (word ∷ drop (k + 1) words) side node bs) (drop_more bits k false q)
    ∙ ap (λ b. descend (word ∷ drop (k + 1) words) side node (b ∷ drop (k + 1) bits)) bit_is in
    ap (λ n. descend (drop (k + 1) words) side n (drop (k + 1) bits)) next_is
    ∙ sym (split ∙ descend-cons word (drop (k + 1) words) side node bit (drop (k + 1) bits))

-- the last bit
descend-last : (words : List LevelWord) (side : Side) (node : Node) (bits : List Bool) (bit : Bool) → length bits < length words
    → descend words side node (bits ++ bit ∷ []) ≡ child (slice_index_or words (length bits) no_word) side (descend words side node bits) bit
descend-last [] side node bits bit h = absurd (omega arith)
descend-last (word ∷ words) side node [] bit h =
    descend-cons word words side node bit [] ∙ descend-nil words side (child word side node bit)
    ∙ ap (λ n. child word side n bit) (sym (descend-nil (word ∷ words) side node))
descend-last (word ∷ words) side node (b ∷ bits) bit h =
    descend-cons word words side node b (bits ++ bit ∷ [])
    ∙ descend-last words side (child word side node b) bits bit (omega arith)
    ∙ ap (λ n. child (slice_index_or words (length bits) no_word) side n bit) (sym (descend-cons word words side node b bits))

pub root_law : RootLaw
root_law share side = descend-nil share.levels side (root share side)

pub child_law : ChildLaw
child_law share side prefix bit h =
    let place : length prefix ≡ length prefix + 1 - 1 = omega arith in
    descend-last share.levels side (root share side) prefix bit h
    ∙ ap (λ i. child (slice_index_or share.levels i no_word) side (descend share.levels side (root share side) prefix) bit) place
