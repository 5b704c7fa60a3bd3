-- One more prefix is planned for.
use Rattle.std.proofs.Common.{◌≡◌, ◌≢◌, ℕ, ◌+◌, ◌-◌, ◌<◌, ◌≤◌, Bool, false, Some, List, [], length, sym, ap₂, slice_get, ◌∙◌, ap, arith, slice_index, slice_index_or, slice_set}
use Rattle.std.proofs.lemmas.Grind.{get_or-set_at}
use Rattle.std.proofs.lemmas.List.{length-set, get_or-set_other, get_or_default}
use Rattle.std.proofs.lemmas.Option.{get_or_from_slice_get}
use Rattle.node_growth.specs.Steps.{Step, no_step}
use Rattle.node_growth.specs.Plans.{IsPlanned, step_at}

-- the step that is read for a prefix
pub step_is : (prefixes : List (List Bool)) (depth : ℕ) (before : List ℕ) (k from : ℕ) (prefix : List Bool) (bit : Bool) → k < length prefixes
    → prefix ≡ slice_index_or prefixes k prefix → slice_get prefix depth ≡ Some bit → from ≡ slice_index before k
    → record { from = from; bit = bit } ≡ step_at prefixes depth before k
step_is prefixes depth before k from prefix bit room is read stood =
    let there : prefix ≡ slice_index_or prefixes k [] = is ∙ get_or_default prefixes k prefix [] room in
    let bit_is : bit ≡ slice_index_or (slice_index_or prefixes k []) depth false =
    sym (get_or_from_slice_get prefix depth bit false read) ∙ ap (λ q. slice_index_or q depth false) there in
    ap₂ (λ n b. record { from = n; bit = b }) stood bit_is

pub planned_more : (prefixes : List (List Bool)) (depth parents : ℕ) (before places : List ℕ) (steps next : List Step) (made grown k last : ℕ)
    → IsPlanned prefixes depth parents before places steps made k → k < length places
    → made ≤ grown → grown ≤ made + 1 → grown ≡ last + 1
    → ((i : ℕ) → i < made → slice_index_or next i no_step ≡ slice_index_or steps i no_step)
    → slice_index_or next last no_step ≡ step_at prefixes depth before k
    → (made < grown → 0 < made → slice_index_or next (made - 1) no_step ≢ slice_index_or next made no_step)
    → slice_index before k < parents
    → IsPlanned prefixes depth parents before (slice_set places k last) next grown (k + 1)
planned_more prefixes depth parents before places steps next made grown k last p room low high end kept own apart within = record {
  few = omega (arith, p.few);
  long = length-set places k last ∙ p.long;
  below = λ j h. grind (arith, p.below, get_or-set_at, get_or-set_other, p.below j);
  own = λ j h. grind (arith, p.below, p.own, kept, get_or-set_at, get_or-set_other);
  rest = λ j h. grind (arith, p.rest, get_or-set_other);
  apart = λ i h. grind (arith, p.apart i, kept i, kept (i + 1), apart);
  within = λ i h. grind (arith, p.within, kept, own);
}
