-- Sums as elements, those of one more report at a time.
use Rattle.std.proofs.Common.{◌≡◌, ℕ, ◌+◌, ◌*◌, ◌<◌, ◌≤◌, List, [], ◌∷◌, ◌++◌, length, take, get_or, refl, sym, ◌∙◌, ap, append_assoc, arith}
use Rattle.std.proofs.lemmas.List.{take_more}
use Rattle.definitions.specs.Sketch.{Sums}
use Rattle.walk_definitions.specs.Messages.{flat}
use Rattle.walk_definitions.specs.Heard.{unflat}

pub flat-push : (ss : List Sums) (s : Sums) → flat (ss ++ s ∷ []) ≡ flat ss ++ s.x ∷ s.y ∷ s.z ∷ []
flat-push [] s = refl
flat-push (t ∷ ss) s = ap (λ xs. t.x ∷ t.y ∷ t.z ∷ xs) (flat-push ss s)

-- the elements of sums give the sums back
pub unflat-flat : (ss : List Sums) → unflat (flat ss) ≡ ss
unflat-flat [] = refl
unflat-flat (s ∷ ss) = ap (λ rest. s ∷ rest) (unflat-flat ss)

-- the next three of a list
pub take_three : (xs : List ℕ) (i d e f : ℕ) → i + 3 ≤ length xs
    → take (i + 3) xs ≡ take i xs ++ get_or xs i d ∷ get_or xs (i + 1) e ∷ get_or xs (i + 2) f ∷ []
take_three xs i d e f inside =
    let two : i + 1 + 1 ≡ i + 2 = omega arith in
    let three : i + 2 + 1 ≡ i + 3 = omega arith in
    ap (λ n. take n xs) (sym three) ∙ take_more xs (i + 2) f (omega arith)
    ∙ ap (λ ys. ys ++ get_or xs (i + 2) f ∷ []) (ap (λ n. take n xs) (sym two) ∙ take_more xs (i + 1) e (omega arith)
    ∙ ap (λ ys. ys ++ get_or xs (i + 1) e ∷ []) (take_more xs i d (omega arith)))
    ∙ append_assoc (take i xs ++ get_or xs i d ∷ []) (get_or xs (i + 1) e ∷ []) (get_or xs (i + 2) f ∷ [])
    ∙ append_assoc (take i xs) (get_or xs i d ∷ []) (get_or xs (i + 1) e ∷ get_or xs (i + 2) f ∷ [])

-- sums so far, with those of three more elements
pub sums_more : (ss more : List Sums) (xs : List ℕ) (i x y z : ℕ) → 3 * i + 3 ≤ length xs → flat ss ≡ take (3 * i) xs
    → more ≡ ss ++ record { x = x; y = y; z = z } ∷ []
    → x ≡ get_or xs (3 * i) x → y ≡ get_or xs (3 * i + 1) y → z ≡ get_or xs (3 * i + 2) z → flat more ≡ take (3 * (i + 1)) xs
sums_more ss more xs i x y z inside so_far pushed first second third =
    let next : 3 * i + 3 ≡ 3 * (i + 1) = omega arith in
    let threes : x ∷ y ∷ z ∷ [] ≡ get_or xs (3 * i) x ∷ get_or xs (3 * i + 1) y ∷ get_or xs (3 * i + 2) z ∷ [] = cc in
    ap flat pushed ∙ flat-push ss (record { x = x; y = y; z = z }) ∙ ap (λ ys. ys ++ x ∷ y ∷ z ∷ []) so_far
    ∙ ap (λ ys. take (3 * i) xs ++ ys) threes
    ∙ sym (take_three xs (3 * i) x y z inside) ∙ ap (λ n. take n xs) next

-- elements so far, with those of one more report
pub elements_more : (ss : List Sums) (s d : Sums) (i x y z : ℕ) (none one two three : List ℕ) → i < length ss → s ≡ get_or ss i d
    → record { x = x; y = y; z = z } ≡ s → none ≡ flat (take i ss) → one ≡ none ++ x ∷ [] → two ≡ one ++ y ∷ [] → three ≡ two ++ z ∷ []
    → three ≡ flat (take (i + 1) ss)
elements_more ss s d i x y z none one two three inside here made so_far first second third =
    third ∙ ap (λ ys. ys ++ z ∷ []) (second ∙ ap (λ ys. ys ++ y ∷ []) first)
    ∙ append_assoc (none ++ x ∷ []) (y ∷ []) (z ∷ []) ∙ append_assoc none (x ∷ []) (y ∷ z ∷ [])
    ∙ ap (λ ys. ys ++ x ∷ y ∷ z ∷ []) so_far
    ∙ sym (ap flat (take_more ss i d inside) ∙ flat-push (take i ss) (get_or ss i d)
    ∙ ap (λ (t : Sums). flat (take i ss) ++ t.x ∷ t.y ∷ t.z ∷ []) (sym here ∙ sym made))

-- three elements for each report
pub length-flat : (ss : List Sums) → length (flat ss) ≡ 3 * length ss
length-flat [] = refl
length-flat (s ∷ ss) = let rest = length-flat ss in omega arith
