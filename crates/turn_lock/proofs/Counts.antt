-- Numbers below a count, and numbers between two counts, as ones and zeros.
use Rattle.std.proofs.Common.{◌≡◌, ℕ, ◌+◌, ◌<◌, ◌≤◌, ◌==◌, cond, arith}
use Rattle.std.proofs.lemmas.Bool.Decides.{nat_tests}
use Rattle.turn_lock.specs.Places.{once_below}
use Rattle.turn_lock.specs.Kept.{between}

module _ (x n : ℕ) where
  pub below : 1 ≤ once_below x n → x < n
  below h = grind (arith, nat_tests)

  pub once_is : x < n → once_below x n ≡ 1
  once_is lt = grind (arith, nat_tests)

  pub once_at_most : once_below x n ≤ 1
  once_at_most = grind (arith, nat_tests)

  pub one_more : once_below x n + cond (n == x) 1 0 ≡ once_below x (n + 1)
  one_more = grind (arith, nat_tests)

module _ (low high x : ℕ) where
  pub is_between : 1 ≤ between low high x → (low ≤ x) × (x < high)
  is_between h = grind (arith, nat_tests)

  pub between_is : low ≤ x → x < high → between low high x ≡ 1
  between_is from to = grind (arith, nat_tests)

  pub at_most_one : between low high x ≤ 1
  at_most_one = grind arith

  pub between_more : low ≤ high → between low high x + cond (high == x) 1 0 ≡ between low (high + 1) x
  between_more h = grind (arith, nat_tests)

  pub between_less : low < high → between (low + 1) high x + cond (low == x) 1 0 ≡ between low high x
  between_less h = grind (arith, nat_tests)
