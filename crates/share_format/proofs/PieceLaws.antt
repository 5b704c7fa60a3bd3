-- Texts of one length, joined end to end.
use Rattle.std.proofs.Common.{◌≡◌, ℕ, zero, suc, ◌+◌, ◌*◌, ◌<◌, List, [], ◌∷◌, ◌++◌, length, get_or, take, drop, All, sym, ap, ◌∙◌, arith}
use Rattle.std.specs.List.{flat_map}
use Rattle.std.proofs.lemmas.List.{take_at, length-append}
use Rattle.std.proofs.lemmas.List.Elements.{All-head, All-tail}
use Rattle.std.proofs.Math.Seq.{drop-append-add}

-- what f makes of each has this length
abbrev pub HaveLength : {X : Type 0} → (X → List ℕ) → ℕ → List X → Type 0
HaveLength f len xs = All (λ x. length (f x) ≡ len) xs

more_of : (len n : ℕ) → len * suc n ≡ len + len * n
more_of len n = omega arith

pub length-pieces : {X : Type 0} (f : X → List ℕ) (len : ℕ) (xs : List X) → HaveLength f len xs → length (flat_map f xs) ≡ len * length xs
length-pieces f len [] all = omega arith
length-pieces f len (x ∷ xs) all =
    let one : length (f x) ≡ len = All-head (λ y. length (f y) ≡ len) x xs all in
    let rest : length (flat_map f xs) ≡ len * length xs = length-pieces f len xs (All-tail (λ y. length (f y) ≡ len) x xs all) in
    let both : length (f x ++ flat_map f xs) ≡ length (f x) + length (flat_map f xs) = length-append (f x) (flat_map f xs) in
    let more : len * suc (length xs) ≡ len + len * length xs = more_of len (length xs) in
    omega arith

-- the piece of a place stands behind the pieces before it
pub piece_at : {X : Type 0} (f : X → List ℕ) (len : ℕ) (xs : List X) (place : ℕ) (d : X) → HaveLength f len xs → place < length xs
    → take len (drop (len * place) (flat_map f xs)) ≡ f (get_or xs place d)
piece_at f len [] place d all p = absurd (omega arith)
piece_at f len (x ∷ xs) zero d all p =
    let none : len * 0 ≡ 0 = omega arith in
    ap (λ n. take len (drop n (f x ++ flat_map f xs))) none
    ∙ take_at (f x) (flat_map f xs) len (All-head (λ y. length (f y) ≡ len) x xs all)
piece_at f len (x ∷ xs) (suc place) d all p =
    let one : length (f x) ≡ len = All-head (λ y. length (f y) ≡ len) x xs all in
    let more : len * suc place ≡ length (f x) + len * place = more_of len place ∙ ap (λ n. n + len * place) (sym one) in
    ap (λ n. take len (drop n (f x ++ flat_map f xs))) more
    ∙ ap (λ (t : List ℕ). take len t) (drop-append-add (f x) (flat_map f xs) (len * place))
    ∙ piece_at f len xs place d (All-tail (λ y. length (f y) ≡ len) x xs all) (omega arith)
