-- The order of ids that maps have is that of their bytes.
use Rattle.std.proofs.Common.{◌≡◌, ℕ, true, List, refl, sym, ◌∙◌, ap, subst, arith}
use Rattle.std.specs.Bool.{Decides}
use Rattle.std.specs.Ordering.{nat_cmp, is_eq, is_lt}
use Rattle.std.proofs.Common.{Ordering}
use Rattle.std.specs.declared.cmp.Ordering.TheVariants.{Less, Equal, Greater}
use Rattle.std.specs.Cmp.Lexicographic.{slice_cmp}
use Rattle.std.proofs.lemmas.Bool.{false≢true}
use Rattle.std.proofs.lemmas.Bool.Decides.{same_from_decides}
use Rattle.std.proofs.lemmas.Cmp.{nat_list_cmp_total, tied_itself, same_from_slice_cmp}
use Rattle.std.proofs.lemmas.Map.Lookups.{exact_bytes}
use Rattle.std.proofs.lemmas.Bool.Decides.{nat_tests}
use Rattle.walk_definitions.specs.Ascending.{bytes_before}
use Rattle.walk_definitions.specs.Reports.{same_bytes}
use Rattle.intake_state.proofs.Same.{bytes_decide}

abbrev pub id_cmp : List ℕ → List ℕ → Ordering
id_cmp = slice_cmp nat_cmp

equal_is : (o : Ordering) → is_eq o ≡ true → o ≡ Equal
equal_is Less e = absurd (false≢true e)
equal_is Equal e = refl
equal_is Greater e = absurd (false≢true e)

tie_decides : (xs ys : List ℕ) → Decides (is_eq (id_cmp xs ys)) (xs ≡ ys)
tie_decides xs ys = (
  λ e. exact_bytes xs ys (equal_is (id_cmp xs ys) e),
  λ e. ap is_eq (subst (λ z. id_cmp xs z ≡ Equal) e (tied_itself nat_list_cmp_total xs)),
)

pub tie_is : (xs ys : List ℕ) → is_eq (id_cmp xs ys) ≡ same_bytes xs ys
tie_is xs ys = same_from_decides (is_eq (id_cmp xs ys)) (same_bytes xs ys) (tie_decides xs ys) (bytes_decide xs ys)

before_is : (xs ys : List ℕ) → is_lt (id_cmp xs ys) ≡ bytes_before xs ys
before_is xs ys =
    same_from_slice_cmp nat_cmp is_lt bytes_before refl (λ y ys. refl) (λ x xs. refl) (λ x y xs ys o e. grind (arith, nat_tests)) xs ys (id_cmp xs ys) refl

pub less_before : (xs ys : List ℕ) → id_cmp xs ys ≡ Less → bytes_before xs ys ≡ true
less_before xs ys e = sym (before_is xs ys) ∙ ap is_lt e
