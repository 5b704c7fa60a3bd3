-- Prefixes get their fronts, one prefix after another.
use Rattle.std.proofs.Common.{◌≡◌, ◌≢◌, ℕ, ◌+◌, ◌-◌, ◌<◌, ◌≤◌, Bool, List, [], length, take, ◌∙◌, ap, arith, slice_index, slice_index_or, slice_set}
use Rattle.std.proofs.lemmas.Grind.{get_or-set_at}
use Rattle.std.proofs.lemmas.List.{get_or-set_other, get_or-take, length-take-le}
use Rattle.idpf_lanes.specs.Stands.{AreFronts, AreApart}

-- what is known of the first prefixes' fronts, of which there are so many
pub record AreParted (depth : ℕ) (prefixes fronts : List (List Bool)) (places : List ℕ) (made upto : ℕ) : Type 0 where
  pub few : made ≤ upto
  pub below : (k : ℕ) → k < upto → slice_index places k < made
  pub own : (k : ℕ) → k < upto → slice_index_or fronts (slice_index places k) [] ≡ take depth (slice_index_or prefixes k [])
  pub long : (i : ℕ) → i < made → length (slice_index_or fronts i []) ≡ depth
  pub apart : AreApart made fronts

-- one more prefix has its front
pub parted_more : (depth : ℕ) (prefixes fronts next : List (List Bool)) (places : List ℕ) (made grown k last : ℕ)
    → AreParted depth prefixes fronts places made k → k < length places
    → made ≤ grown → grown ≤ made + 1 → grown ≡ last + 1
    → ((i : ℕ) → i < made → slice_index_or next i [] ≡ slice_index_or fronts i [])
    → slice_index_or next last [] ≡ take depth (slice_index_or prefixes k [])
    → length (slice_index_or next last []) ≡ depth
    → (made < grown → 0 < made → slice_index_or next (made - 1) [] ≢ slice_index_or next made [])
    → AreParted depth prefixes next (slice_set places k last) grown (k + 1)
parted_more depth prefixes fronts next places made grown k last p room low high end kept own long apart = record {
  few = omega (arith, p.few);
  below = λ j h. grind (arith, p.below, get_or-set_at, get_or-set_other, p.below j);
  own = λ j h. grind (arith, p.below, p.own, kept, get_or-set_at, get_or-set_other);
  long = λ i h. grind (arith, p.long, kept, long);
  apart = λ i h. grind (arith, p.apart i, kept i, kept (i + 1), apart);
}

-- with all prefixes the fronts are those that are wanted
pub fronts_parted : (depth : ℕ) (prefixes fronts : List (List Bool)) (places : List ℕ) (made : ℕ) → AreParted depth prefixes fronts places made (length prefixes)
    → made ≤ length fronts → AreFronts depth prefixes (take made fronts) places
fronts_parted depth prefixes fronts places made p room =
    let few : length (take made fronts) ≡ made = length-take-le made fronts room in
    record {
      below = λ k h. omega (arith, few, p.below k h);
      own = λ k h. get_or-take made fronts (slice_index places k) [] (p.below k h) ∙ p.own k h;
      long = λ i h.
          let low : i < made = omega (arith, few, h) in
          ap length (get_or-take made fronts i [] low) ∙ p.long i low;
    }
