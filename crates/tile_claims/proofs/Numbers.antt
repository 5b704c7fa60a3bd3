-- Lists of numbers: what they hold, and what a push and a join do to them.
use Rattle.std.proofs.Common.{◌≡◌, ℕ, ◌+◌, ◌<◌, ◌≤◌, ◌^◌, ◌==◌, cond, not, nat_lt, List, [], ◌∷◌, ◌++◌, length, sum_by, refl, arith, eq-eqb}
use Rattle.std.specs.List.{AllByRecursion}
use Rattle.std.proofs.lemmas.List.Sums.{sum_by-cons, sum_by_push, sum_by-append}
use Rattle.std.proofs.lemmas.Bool.Decides.{nat_tests}
use Rattle.list_totals.proofs.Elements.{each_append}
use Rattle.tile_claims.specs.declared.views.DrawerList.{DrawerList}
use Rattle.tile_claims.specs.Views.{IsDrawerList}
use Rattle.tile_claims.specs.Lists.{Ascends, times, once_below, large}

-- what is told of each number that stands in the list is told of each element
pub each_of_times : (F : ℕ → Type 0) (xs : List ℕ) → ((x : ℕ) → 0 < times x xs → F x) → AllByRecursion F xs
each_of_times F [] h = tt
each_of_times F (x ∷ xs) h =
    let one : ◌≡◌ {A = ℕ} (cond (x == x) 1 0) 1 = rw (eq-eqb x x refl) refl in
    let count : (y : ℕ) → times y (x ∷ xs) ≡ cond (x == y) 1 0 + times y xs = λ y. sum_by-cons (λ z. cond (z == y) 1 0) x xs in
    (h x (omega (arith, one, count x)), each_of_times F xs (λ y some. h y (omega (arith, some, count y))))

pub times_push : (x : ℕ) (xs : List ℕ) (n : ℕ) → times x (xs ++ n ∷ []) ≡ times x xs + cond (n == x) 1 0
times_push x xs n = sum_by_push (λ y. cond (y == x) 1 0) xs n

pub times-append : (x : ℕ) (xs ys : List ℕ) → times x (xs ++ ys) ≡ times x xs + times x ys
times-append x xs ys = sum_by-append (λ y. cond (y == x) 1 0) xs ys

pub large_push : (xs : List ℕ) (n : ℕ) → large (xs ++ n ∷ []) ≡ large xs + cond (not (nat_lt n (2 ^ 32))) 1 0
large_push xs n = sum_by_push (λ y. cond (not (nat_lt y (2 ^ 32))) 1 0) xs n

pub once_more : (x n : ℕ) → once_below x n + cond (n == x) 1 0 ≡ once_below x (n + 1)
once_more x n = grind (arith, nat_tests)

pub is_below : (x n : ℕ) → 0 < once_below x n → x < n
is_below x n h = grind (arith, nat_tests)

-- the bound on the word after one more number
pub one_more : (n s t : ℕ) → n ≤ 2 ^ 32 + s → t ≡ s + cond (not (nat_lt n (2 ^ 32))) 1 0 → n + 1 ≤ 2 ^ 32 + t
one_more n s t h e = grind (arith, nat_tests)

pub at_most_one : (n t : ℕ) → t ≡ 0 + cond (not (nat_lt n (2 ^ 32))) 1 0 → t ≤ 1
at_most_one n t e = grind arith

pub ascends_push : (xs : List ℕ) (n : ℕ) → Ascends xs → AllByRecursion (λ x. x < n) xs → Ascends (xs ++ n ∷ [])
ascends_push [] n h below = (tt, tt)
ascends_push (x ∷ xs) n h below = (each_append (λ y. x < y) xs (n ∷ []) h.0 (below.0, tt), ascends_push xs n h.1 below.1)

-- a list has one large number at most
pub large_few : (ls : List DrawerList) → AllByRecursion IsDrawerList ls → sum_by (λ l. large l.numbers) ls ≤ length ls
large_few [] h = omega arith
large_few (l ∷ ls) h = omega (arith, sum_by-cons (λ (z : DrawerList). large z.numbers) l ls, large_few ls h.1, h.0.few_large)
