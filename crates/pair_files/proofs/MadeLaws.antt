-- Shares of strings in two parts, and the text of a file up to a line.
use Rattle.std.proofs.Common.{◌≡◌, ℕ, ◌+◌, ◌<◌, ◌++◌, Bool, List, [], ◌∷◌, length, take, drop, get_or, sym, ap, ◌∙◌, arith, append_assoc}
use Rattle.std.specs.List.{flat_map}
use Rattle.std.proofs.lemmas.List.{append-nil, take_more, take-append-drop, length-take, length-drop, length-take-le, get_or_default, get_or-take, get_or-drop}
use Rattle.std.proofs.lemmas.List.Concat.{flat_map-append}
use Rattle.definitions.specs.declared.Side.{Side}
use Rattle.definitions.specs.Evaluation.{Share}
use Rattle.share_format.specs.Spelling.{header, spelling}
use Rattle.share_format.specs.Laws.{file_of}
use Rattle.idpf_gen.specs.Made.{of_lines}
use Rattle.idpf_gen.proofs.LineLaws.{of_lines-append, of_lines-at}

-- the text of a file in two parts
pub file_of-append : (side : Side) (width : ℕ) (shares more : List Share)
    → file_of side width (shares ++ more) ≡ file_of side width shares ++ flat_map spelling more
file_of-append side width shares more =
    ap (λ t. header side width ++ t) (flat_map-append spelling shares more)
    ∙ sym (append_assoc (header side width) (flat_map spelling shares) (flat_map spelling more))

-- the text up to a line begins the whole text
pub text_front : (side : Side) (width : ℕ) (share_of : ℕ → List Bool → Share) (strings : List (List Bool)) (line : ℕ)
    → file_of side width (of_lines share_of 0 strings)
    ≡ file_of side width (of_lines share_of 0 (take line strings)) ++ flat_map spelling (of_lines share_of (0 + length (take line strings)) (drop line strings))
text_front side width share_of strings line =
    ap (λ ss. file_of side width (of_lines share_of 0 ss)) (sym (take-append-drop line strings))
    ∙ ap (file_of side width) (of_lines-append share_of 0 (take line strings) (drop line strings))
    ∙ file_of-append side width (of_lines share_of 0 (take line strings)) (of_lines share_of (0 + length (take line strings)) (drop line strings))

-- the text with the record of the next line
pub text_more : (side : Side) (width : ℕ) (share_of : ℕ → List Bool → Share) (strings : List (List Bool)) (line : ℕ) (string : List Bool)
    (share : Share) → line < length strings → string ≡ get_or strings line string → share ≡ share_of line string
    → file_of side width (of_lines share_of 0 (take line strings)) ++ spelling share ≡ file_of side width (of_lines share_of 0 (take (line + 1) strings))
text_more side width share_of strings line string share p here is =
    let long = length-take-le line strings (omega arith) in
    let count : 0 + length (take line strings) ≡ line = omega (arith, long) in
    sym (
    ap (λ ss. file_of side width (of_lines share_of 0 ss)) (take_more strings line string p ∙ ap (λ s. take line strings ++ s ∷ []) (sym here))
    ∙ ap (file_of side width) (of_lines-append share_of 0 (take line strings) (string ∷ []))
    ∙ ap (λ n. file_of side width (of_lines share_of 0 (take line strings) ++ share_of n string ∷ [])) count
    ∙ file_of-append side width (of_lines share_of 0 (take line strings)) (share_of line string ∷ [])
    ∙ ap (λ t. file_of side width (of_lines share_of 0 (take line strings)) ++ t) (append-nil (spelling (share_of line string)) ∙ ap spelling (sym is)))

-- the share at a place of a block that begins at a line
pub block_share : (share_of : ℕ → List Bool → Share) (strings part : List (List Bool)) (line n place : ℕ) (shares : List Share) (share : Share)
    → part ≡ take n (drop line strings) → shares ≡ of_lines share_of line part → place < length part → share ≡ get_or shares place share
    → share ≡ share_of (line + place) (get_or strings (line + place) [])
block_share share_of strings part line n place shares share cut made p here =
    let few : place < n = omega (arith, ap length cut, length-take n (drop line strings)) in
    here ∙ ap (λ ss. get_or ss place share) made
    ∙ of_lines-at share_of line part place share (get_or part place []) p (get_or_default part place [] (get_or part place []) p)
    ∙ ap (share_of (line + place))
    (ap (λ ss. get_or ss place []) cut ∙ get_or-take n (drop line strings) place [] few ∙ get_or-drop line strings place [])

-- the line of a place of a block is one of the lines
pub block_room : (strings part : List (List Bool)) (line n place : ℕ) → part ≡ take n (drop line strings) → place < length part
    → line + place < length strings
block_room strings part line n place cut p = omega (arith, ap length cut, length-take n (drop line strings), length-drop line strings)
