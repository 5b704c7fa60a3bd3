-- What is made of strings whose lines follow one another.
use Rattle.std.proofs.Common.{◌≡◌, ℕ, zero, suc, ◌+◌, ◌<◌, ◌++◌, Bool, List, [], ◌∷◌, length, get_or, refl, sym, ap, ◌∙◌, arith}
use Rattle.idpf_gen.specs.Made.{of_lines}

-- what is made of one list of strings, and of another on the lines behind it
pub of_lines-append : {X : Type 0} (of : ℕ → List Bool → X) (line : ℕ) (xs ys : List (List Bool))
    → of_lines of line (xs ++ ys) ≡ of_lines of line xs ++ of_lines of (line + length xs) ys
of_lines-append of line [] ys = ap (λ n. of_lines of n ys) (omega arith)
of_lines-append of line (x ∷ xs) ys =
    ap (λ made. of line x ∷ made) (of_lines-append of (line + 1) xs ys
    ∙ ap (λ n. of_lines of (line + 1) xs ++ of_lines of n ys) (omega arith))

-- an item for each string
pub length-of_lines : {X : Type 0} (of : ℕ → List Bool → X) (line : ℕ) (strings : List (List Bool)) → length (of_lines of line strings) ≡ length strings
length-of_lines of line [] = refl
length-of_lines of line (s ∷ ss) = let rest = length-of_lines of (line + 1) ss in omega arith

-- the item of the string at a place
pub of_lines-at : {X : Type 0} (of : ℕ → List Bool → X) (line : ℕ) (strings : List (List Bool)) (k : ℕ) (d : X) (string : List Bool)
    → k < length strings → string ≡ get_or strings k string → get_or (of_lines of line strings) k d ≡ of (line + k) string
of_lines-at of line [] k d string h e = absurd (omega arith)
of_lines-at of line (s ∷ ss) zero d string h e =
    let same : line ≡ line + 0 = omega arith in
    ap (of line) (sym e) ∙ ap (λ n. of n string) same
of_lines-at of line (s ∷ ss) (suc k) d string h e =
    let same : line + 1 + k ≡ line + suc k = omega arith in
    of_lines-at of (line + 1) ss k d string (omega arith) e ∙ ap (λ n. of n string) same
