-- Words on lists, and on lists of numbers.
use Rattle.std.specs.Prelude.{ℕ, ◌≡◌, ◌<◌, ◌^◌, ◌==◌, not, nat_lt, List, [], ◌∷◌, length, count_by, if◌then◌else◌}
use Rattle.std.specs.List.{AllByRecursion}

-- each number is less than all that come after it
abbrev pub Ascends : List ℕ → Type 0
Ascends [] = Unit {0}
Ascends (x ∷ xs) = AllByRecursion (λ y. x < y) xs × Ascends xs

-- how often x stands in the list
abbrev pub times : ℕ → List ℕ → ℕ
times x xs = count_by (λ y. y == x) xs

-- 1 for a number below n, and 0 for any other
abbrev pub once_below : ℕ → ℕ → ℕ
once_below x n = if nat_lt x n then 1 else 0

-- each number below n stands in the list exactly once, and no other number does
abbrev pub HasEachBelowOnce : ℕ → List ℕ → Type 0
HasEachBelowOnce n xs = (x : ℕ) → times x xs ≡ once_below x n

-- how many of the numbers are 2 ^ 32 or more
abbrev pub large : List ℕ → ℕ
large xs = count_by (λ y. not (nat_lt y (2 ^ 32))) xs

-- the numbers of the elements are those below the length, each once
abbrev pub AreNumberedOnce : {X : Type 0} → (X → ℕ) → List X → Type 0
AreNumberedOnce number xs = (k : ℕ) → count_by (λ x. number x == k) xs ≡ once_below k (length xs)
