-- When a list of bits begins with another.
use Rattle.std.proofs.Common.{◌≡◌, ◌≢◌, ℕ, zero, suc, ◌<◌, ◌≤◌, Bool, true, false, not, Some, List, [], ◌∷◌, length, get_or, refl, sym, ◌∙◌, arith}
use Rattle.std.specs.Bool.{beq}
use Rattle.std.specs.List.{slice_get}
use Rattle.std.proofs.lemmas.Option.{get_or_from_slice_get, slice_get_within}
use Rattle.definitions.specs.Prefixes.{is_prefix}

pub is_prefix-longer : (p q : List Bool) → length q < length p → is_prefix p q ≡ false
is_prefix-longer [] q h = absurd (omega arith)
is_prefix-longer (a ∷ p) [] h = refl
is_prefix-longer (false ∷ p) (false ∷ q) h = is_prefix-longer p q (omega arith)
is_prefix-longer (false ∷ p) (true ∷ q) h = refl
is_prefix-longer (true ∷ p) (false ∷ q) h = refl
is_prefix-longer (true ∷ p) (true ∷ q) h = is_prefix-longer p q (omega arith)

pub is_prefix-differs : (p q : List Bool) (place : ℕ) → place < length p → place < length q → get_or p place false ≢ get_or q place false
    → is_prefix p q ≡ false
is_prefix-differs [] q place h k apart = absurd (omega arith)
is_prefix-differs (a ∷ p) [] place h k apart = refl
is_prefix-differs (false ∷ p) (true ∷ q) place h k apart = refl
is_prefix-differs (true ∷ p) (false ∷ q) place h k apart = refl
is_prefix-differs (false ∷ p) (false ∷ q) zero h k apart = absurd (apart refl)
is_prefix-differs (false ∷ p) (false ∷ q) (suc place) h k apart = is_prefix-differs p q place (omega arith) (omega arith) apart
is_prefix-differs (true ∷ p) (true ∷ q) zero h k apart = absurd (apart refl)
is_prefix-differs (true ∷ p) (true ∷ q) (suc place) h k apart = is_prefix-differs p q place (omega arith) (omega arith) apart

pub is_prefix-same : (p q : List Bool) → length p ≤ length q → ((place : ℕ) → place < length p → get_or p place false ≡ get_or q place false)
    → is_prefix p q ≡ true
is_prefix-same [] q h same = refl
is_prefix-same (a ∷ p) [] h same = absurd (omega arith)
is_prefix-same (false ∷ p) (true ∷ q) h same = absurd (let e : false ≡ true = same 0 (omega arith) in cc)
is_prefix-same (true ∷ p) (false ∷ q) h same = absurd (let e : true ≡ false = same 0 (omega arith) in cc)
is_prefix-same (false ∷ p) (false ∷ q) h same = is_prefix-same p q (omega arith) (λ place l. same (suc place) (omega arith))
is_prefix-same (true ∷ p) (true ∷ q) h same = is_prefix-same p q (omega arith) (λ place l. same (suc place) (omega arith))

-- ---- the bits that two reads gave

differ : (a b : Bool) → not (beq a b) ≡ true → a ≢ b
differ false false h e = cc
differ false true h e = cc
differ true false h e = cc
differ true true h e = cc

same : (a b : Bool) → not (beq a b) ≡ false → a ≡ b
same false false h = refl
same false true h = absurd (cc)
same true false h = absurd (cc)
same true true h = refl

pub is_prefix-read_differs : (p q : List Bool) (place : ℕ) (a b : Bool) → slice_get p place ≡ Some a → slice_get q place ≡ Some b
    → not (beq a b) ≡ true → is_prefix p q ≡ false
is_prefix-read_differs p q place a b first second h =
    let x = get_or_from_slice_get p place a false first in
    let y = get_or_from_slice_get q place b false second in
    is_prefix-differs p q place (slice_get_within p place a first) (slice_get_within q place b second)
    (λ e. differ a b h (sym x ∙ e ∙ y))

pub read_same : (p q : List Bool) (place : ℕ) (a b : Bool) → slice_get p place ≡ Some a → slice_get q place ≡ Some b
    → not (beq a b) ≡ false → get_or p place false ≡ get_or q place false
read_same p q place a b first second h =
    get_or_from_slice_get p place a false first ∙ same a b h ∙ sym (get_or_from_slice_get q place b false second)
