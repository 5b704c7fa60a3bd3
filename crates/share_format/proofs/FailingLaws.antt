-- Laws of the first number that fails a test.
use Rattle.std.specs.Prelude.{◌&&◌}
use Rattle.std.proofs.Common.{◌≡◌, ℕ, zero, suc, ◌+◌, ◌<◌, Bool, true, false, cond, Option, None, Some, refl, subst, inl, inr, ap, sym, add-one, arith}
use Rattle.std.specs.Option.{option_or}
use Rattle.std.proofs.lemmas.Bool.{cases_lt}
use Rattle.share_format.specs.ShareFile.{first_failing}

pub first_failing-zero : (passes : ℕ → Bool) → first_failing passes 0 ≡ None
unfolding first_failing
first_failing-zero passes = refl

-- one more number that passes
pub first_failing-more : (passes : ℕ → Bool) (count : ℕ) → first_failing passes count ≡ None → passes count ≡ true → first_failing passes (count + 1) ≡ None
unfolding first_failing
first_failing-more passes count none passed = rw (add-one, none, passed) refl

none_or : (found : Option ℕ) (b : Bool) (place : ℕ) → option_or found (cond b None (Some place)) ≡ None → (found ≡ None) × (b ≡ true)
none_or None true place e = (refl, refl)
none_or None false place e = absurd cc
none_or (Some x) b place e = absurd cc

-- the first number that fails is found, whatever the others do
pub first_failing-found : (passes : ℕ → Bool) (count place : ℕ) → place < count → first_failing passes place ≡ None → passes place ≡ false
    → first_failing passes count ≡ Some place
unfolding first_failing
first_failing-found passes zero place p none failed = absurd (omega arith)
first_failing-found passes (suc count) place p none failed =
    elim (cases_lt place count) [
      | inl lower ↦ rw (first_failing-found passes count place lower none failed) refl
      | inr not_lower ↦
          let same : place ≡ count = omega arith in
          let at_count : first_failing passes count ≡ None = subst (λ n. first_failing passes n ≡ None) same none in
          let fails : passes count ≡ false = subst (λ n. passes n ≡ false) same failed in
          rw (at_count, fails) (ap Some (sym same))
    ]

-- where none of one more number fails, none did before, and this one passes
pub first_failing-passed : (passes : ℕ → Bool) (count : ℕ) → first_failing passes (suc count) ≡ None → (first_failing passes count ≡ None) × (passes count ≡ true)
unfolding first_failing
first_failing-passed passes count none = none_or (first_failing passes count) (passes count) count none

-- two tests that agree below the count
pub first_failing-same : (f g : ℕ → Bool) (count : ℕ) → ((place : ℕ) → place < count → f place ≡ g place) → first_failing f count ≡ first_failing g count
unfolding first_failing
first_failing-same f g zero same = refl
first_failing-same f g (suc count) same =
    rw (first_failing-same f g count (λ place p. same place (omega (arith, p))), same count (omega arith)) refl

-- both of two tests that pass together
pub both_pass : (b c : Bool) → (b && c) ≡ true → (b ≡ true) × (c ≡ true)
both_pass true true e = (refl, refl)
both_pass true false e = absurd cc
both_pass false c e = absurd cc
