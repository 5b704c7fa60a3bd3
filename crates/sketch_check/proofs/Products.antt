-- Products that are made in another order.
use Rattle.std.proofs.Common.{◌≡◌, ℕ, [], ◌∷◌, refl}
use Rattle.definitions.specs.Field.{mul}
use Rattle.definitions.proofs.Ring.{var, ◌⊗◌, ring}

pub mul_again : (r d : ℕ) → mul r (mul r d) ≡ mul (mul r r) d
mul_again r d = ring (r ∷ d ∷ []) (var 0 ⊗ (var 0 ⊗ var 1)) (var 0 ⊗ var 0 ⊗ var 1) refl refl refl

pub ruleset products = (mul_again)
