-- The first byte at which a header is not there.
use Rattle.std.proofs.Common.{◌≡◌, ℕ, ◌+◌, ◌<◌, ◌≤◌, List, Some, length, drop, get_or, ◌∙◌, ap, ap₂}
use Rattle.std.specs.Prelude.{if◌then◌else◌}
use Rattle.std.proofs.lemmas.Bool.{ne_eqb}
use Rattle.std.proofs.lemmas.List.{drop_more, drop_all}
use Rattle.walk_definitions.specs.Messages.{heading_fault}

-- the bytes have ended
pub ended_here : (hs bs : List ℕ) (i : ℕ) → i < length hs → length bs ≤ i → heading_fault (drop i hs) (drop i bs) i ≡ Some i
ended_here hs bs i inside ended = ap₂ (λ h b. heading_fault h b i) (drop_more hs i 0 inside) (drop_all i bs ended)

-- the next byte is another one
pub differs_here : (hs bs : List ℕ) (i : ℕ) → i < length hs → i < length bs → (get_or hs i 0 ≡ get_or bs i 0 → ⊥) → heading_fault (drop i hs) (drop i bs) i ≡ Some i
differs_here hs bs i inside there differ =
    ap₂ (λ h b. heading_fault h b i) (drop_more hs i 0 inside) (drop_more bs i 0 there)
    ∙ ap (λ b. if b then heading_fault (drop (i + 1) hs) (drop (i + 1) bs) (i + 1) else Some i) (ne_eqb (get_or hs i 0) (get_or bs i 0) differ)
