-- The sum of counts, string after string.
use Rattle.std.proofs.Common.{◌≡◌, ℕ, ◌+◌, ◌<◌, List, length, take, get_or}
use Rattle.std.specs.List.{sum_by}
use Rattle.std.proofs.lemmas.List.Sums.{sum_by_more}
use Rattle.walk_definitions.specs.Walk.{Heavy}

pub sum_more : (strings : List Heavy) (i : ℕ) (d : Heavy) → i < length strings
    → sum_by (λ h. h.count) (take (i + 1) strings) ≡ sum_by (λ h. h.count) (take i strings) + (get_or strings i d).count
sum_more strings i d fits = sum_by_more (λ (h : Heavy). h.count) strings i d fits

pub ruleset sum_steps = sum_more
