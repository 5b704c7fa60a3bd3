-- Numbers read from decimal digits.
use Rattle.std.proofs.Common.{◌≡◌, ℕ, ◌<◌, ◌≤◌, ◌^◌, Bool, true, false, not, cond, nat_lt, List, None, Some, Result, length, refl, ◌∙◌, ap, arith}
use Rattle.std.specs.Prelude.{◌&&◌}
use Rattle.std.specs.List.{list_all}
use Rattle.std.specs.Result.{OkIff}
use Rattle.std.specs.Str.Parse.{digits_value, ParsesUnsigned}
use Rattle.std.proofs.lemmas.Bool.{ltb-false, lt-ltb, le-ltb}
use Rattle.std.proofs.lemmas.Str.Parse.{parse_digits, numerals_by_value, IsDigitsTest}
use Rattle.command_words.specs.Values.{is_digit, within}

abbrev AreDigits : List ℕ → Type 0
AreDigits ds = list_all is_digit ds ≡ true

both_true : (a b : Bool) → (a && b) ≡ true → (a ≡ true) × (b ≡ true)
both_true true b e = (refl, e)
both_true false b e = absurd (cc)

not_true : (a : Bool) → not a ≡ true → a ≡ false
not_true true e = absurd (cc)
not_true false e = refl

digits_test : IsDigitsTest AreDigits
digits_test = record {
  empty = refl;
  parts = λ c cs e.
      let first = both_true (is_digit c) (list_all is_digit cs) e in
      let bounds = both_true (not (nat_lt c 48)) (not (nat_lt 57 c)) first.0 in
      let least = ltb-false c 48 (not_true (nat_lt c 48) bounds.0) in
      let most = ltb-false 57 c (not_true (nat_lt 57 c) bounds.1) in
      ((least, most), first.1);
  more = λ c cs range rest.
      let least : nat_lt c 48 ≡ false = le-ltb c 48 range.0 in
      let most : nat_lt 57 c ≡ false = le-ltb 57 c range.1 in
      ap (λ b. (not b && not (nat_lt 57 c)) && list_all is_digit cs) least ∙ ap (λ b. (true && not b) && list_all is_digit cs) most ∙ rest;
}

-- what the parsing of decimal digits at 64 bits gives
pub parsed : {E : Type 0} (word : List ℕ) (r : Result ℕ E) → ParsesUnsigned 64 10 word r → list_all is_digit word ≡ true
    → OkIff r ((0 < length word) × (digits_value 10 word < 2 ^ 64)) (digits_value 10 word)
parsed word r h digits = parse_digits (numerals_by_value AreDigits digits_test) 64 word r h digits

-- a number that does not fit 64 bits is past every bound of 64 bits
pub too_great : (least most n : ℕ) → most < 2 ^ 64 → 2 ^ 64 ≤ n → within least most n ≡ None
too_great least most n p h = at (nat_lt n least)
  where
    past : nat_lt most n ≡ true
    past = lt-ltb most n (omega arith)

    at : (b : Bool) → (cond b None (cond (nat_lt most n) None (Some n))) ≡ None
    at true = refl
    at false = ap (λ b. cond b None (Some n)) past

pub ruleset number_steps = (parsed, too_great)
