-- A number that is reduced before it is added or taken away makes no difference.
use Rattle.std.proofs.Common.{◌≡◌, ℕ, ◌+◌, ◌-◌, ◌%◌, ap}
use Rattle.std.proofs.Math.Nat.{mod-mod, add-mod-mod}
use Rattle.definitions.specs.Field.{modulus, add, sub}

pub add_reduced : (a b : ℕ) → add a (b % modulus) ≡ add a b
unfolding add
add_reduced a b = add-mod-mod a b modulus

pub sub_reduced : (a b : ℕ) → sub a (b % modulus) ≡ sub a b
unfolding sub
sub_reduced a b = ap (λ r. (a + (modulus - r)) % modulus) (mod-mod b modulus)

pub ruleset reduced = (add_reduced, sub_reduced)
