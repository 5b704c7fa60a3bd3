-- Ids of one tag ascend with their lines.
use Rattle.std.proofs.Common.{◌≡◌, ℕ, suc, ◌+◌, ◌*◌, ◌^◌, ◌<◌, ◌≤◌, inl, inr, Bool, true, false, List, [], ◌∷◌, ◌++◌, length, refl, ◌∙◌, ap, arith}
use Rattle.std.specs.Prelude.{if◌then◌else◌, nat_lt}
use Rattle.std.specs.Int.{w64, to_be_bytes}
use Rattle.std.specs.List.{AllByRecursion}
use Rattle.std.proofs.Math.Nat.{pow-suc, mul-le-mul_right}
use Rattle.std.proofs.lemmas.Bool.{ltb-true, ltb-false, le-ltb, false≢true}
use Rattle.std.proofs.lemmas.Nat.{from_be_bytes-to_be_bytes_8}
use Rattle.definitions.specs.ReportIds.{report_id}
use Rattle.walk_definitions.specs.Ascending.{comes_before, bytes_before}
use Rattle.walk_definitions.proofs.Order.{numbers_ordered, lists_ordered}

-- ---- the number that bytes are, the highest of them first

abbrev value : List ℕ → ℕ
value [] = 0
value (x ∷ xs) = x * 256 ^ length xs + value xs

abbrev AreBytes : List ℕ → Type 0
AreBytes = AllByRecursion (λ b. b < 256)

value-small : (xs : List ℕ) → AreBytes xs → value xs < 256 ^ length xs
value-small [] all = omega arith
value-small (x ∷ xs) all =
    let rest = value-small xs all.1 in
    let front : x * 256 ^ length xs ≤ 255 * 256 ^ length xs = mul-le-mul_right (256 ^ length xs) (omega arith) in
    omega (arith, rest, front, pow-suc 256 (length xs))

-- what is greater at a byte is greater
value-front : (x y v w p : ℕ) → x < y → v < p → x * p + v < y * p + w
value-front x y v w p less small =
    let more : suc x * p ≤ y * p = mul-le-mul_right p (omega arith) in
    omega (arith, more)

value-order : (xs ys : List ℕ) → comes_before nat_lt xs ys ≡ true → length xs ≡ length ys → AreBytes xs → AreBytes ys → value xs < value ys
value-order [] [] e long all every = absurd (false≢true e)
value-order [] (y ∷ ys) e long all every = absurd (omega arith)
value-order (x ∷ xs) [] e long all every = absurd (omega arith)
value-order (x ∷ xs) (y ∷ ys) e long all every =
    at (nat_lt x y) (nat_lt y x) refl refl e (λ f. value-order xs ys f same all.1 every.1)
  where
    same : length xs ≡ length ys
    same = omega arith

    equal : x ≡ y → value xs < value ys → value (x ∷ xs) < value (y ∷ ys)
    equal is less =
        let tops : x * 256 ^ length xs ≡ y * 256 ^ length ys = ap (λ z. z * 256 ^ length xs) is ∙ ap (λ n. y * 256 ^ n) same in
        omega (arith, tops, less)

    at : (b c : Bool) → nat_lt x y ≡ b → nat_lt y x ≡ c → (if b then true else if c then false else comes_before nat_lt xs ys) ≡ true
        → (comes_before nat_lt xs ys ≡ true → value xs < value ys) → value (x ∷ xs) < value (y ∷ ys)
    at true c p q f more =
        let tops : y * 256 ^ length xs ≡ y * 256 ^ length ys = ap (λ n. y * 256 ^ n) same in
        omega (arith, tops, value-front x y (value xs) (value ys) (256 ^ length xs) (ltb-true x y p) (value-small xs all.1))
    at false true p q f more = absurd (false≢true f)
    at false false p q f more = equal (omega (arith, ltb-false x y p, ltb-false y x q)) (more f)

-- ---- eight bytes of a number

are_bytes : (n : ℕ) → AreBytes (to_be_bytes w64 n)
are_bytes n = (omega arith, (omega arith, (omega arith, (omega arith, (omega arith, (omega arith, (omega arith, (omega arith, tt))))))))

value-eight : (n : ℕ) → n < 2 ^ 64 → value (to_be_bytes w64 n) ≡ n
value-eight n fits = omega (arith, from_be_bytes-to_be_bytes_8 n fits)

eight_ascend : (i j : ℕ) → i < j → j < 2 ^ 64 → bytes_before (to_be_bytes w64 i) (to_be_bytes w64 j) ≡ true
eight_ascend i j less fits = elim ((lists_ordered nat_lt numbers_ordered).either (to_be_bytes w64 i) (to_be_bytes w64 j)) [
  | inl before ↦ before
  | inr (inl same) ↦ absurd (omega (arith, ap value same, value-eight i (omega arith), value-eight j fits))
  | inr (inr after) ↦ absurd (omega (
    arith,
    value-order (to_be_bytes w64 j) (to_be_bytes w64 i) after refl (are_bytes j) (are_bytes i),
    value-eight i (omega arith),
    value-eight j fits,
  ))
]

-- ---- ids

same_front : (zs xs ys : List ℕ) → bytes_before (zs ++ xs) (zs ++ ys) ≡ bytes_before xs ys
same_front [] xs ys = refl
same_front (z ∷ zs) xs ys =
    ap (λ b. if b then true else if b then false else bytes_before (zs ++ xs) (zs ++ ys)) (le-ltb z z (omega arith))
    ∙ same_front zs xs ys

pub lines_ascend : (tag i j : ℕ) → i < j → j < 2 ^ 64 → bytes_before (report_id tag i) (report_id tag j) ≡ true
lines_ascend tag i j less fits = same_front (to_be_bytes w64 tag) (to_be_bytes w64 i) (to_be_bytes w64 j) ∙ eight_ascend i j less fits
