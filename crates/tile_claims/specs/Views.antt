-- What the seats of a claims object know, and the rule over the word and all of these views.
use Rattle.std.specs.Prelude.{ℕ, ◌+◌, ◌≡◌, ◌≤◌, ◌<◌, ◌^◌, ◌==◌, List, [], ◌∷◌, ◌++◌, length, sum_by, count_by}
use Rattle.std.specs.List.{AllByRecursion}
use mathlib.Core.Option.{some}
use lib.ListN.{get_elem?}
use Rattle.atomic_table.specs.Table.{State, Me}
use Rattle.tile_claims.specs.declared.views.View.{View}
use Rattle.tile_claims.specs.declared.views.DrawerList.{DrawerList}
use Rattle.tile_claims.specs.Lists.{Ascends, times, once_below, large}

-- the view of a seat: how many drawers were made, where it keeps that count, and the lists of its drawers
abbrev pub view_of : ℕ → List DrawerList → View
view_of made lists = record { made = made; lists = lists }

-- the list of a drawer
abbrev pub drawer_list : ℕ → List ℕ → DrawerList
drawer_list drawer numbers = record { drawer = drawer; numbers = numbers }

-- the numbers of the first list
abbrev pub first_numbers : List DrawerList → List ℕ
first_numbers [] = []
first_numbers (l ∷ ls) = l.numbers

-- how many of the lists are of that drawer
abbrev pub lists_of : ℕ → View → ℕ
lists_of drawer v = count_by (λ l. l.drawer == drawer) v.lists

-- how often x stands in the lists
abbrev pub drawn_in : ℕ → View → ℕ
drawn_in x v = sum_by (λ l. times x l.numbers) v.lists

-- how many numbers of 2 ^ 32 or more stand in the lists
abbrev pub large_in : View → ℕ
large_in v = sum_by (λ l. large l.numbers) v.lists

-- a drawer draws no more after a number that is not below the number of tiles, so at most one is 2 ^ 32 or more
pub record IsDrawerList (l : DrawerList) : Type 0 where
  pub ascends : Ascends l.numbers
  pub few_large : large l.numbers ≤ 1

-- who keeps the count has the whole of it
pub record Fits (count : ℕ) (v : View) : Type 0 where
  pub made : 0 < v.made → v.made ≡ count
  pub lists : AllByRecursion IsDrawerList v.lists

-- `count` drawers were made, of `drawers` at most, and the word is n
pub record IsClaimed (drawers count n : ℕ) (views : List View) : Type 0 where
  pub any : 0 < count
  pub few : count ≤ drawers
  pub most : drawers ≤ 4096
  pub made : sum_by (λ (v : View). v.made) views ≡ count
  pub lists : sum_by (λ (v : View). length v.lists) views ≡ count
  pub drawers_once : (d : ℕ) → sum_by (lists_of d) views ≡ once_below d count
  pub numbers_once : (x : ℕ) → sum_by (drawn_in x) views ≡ once_below x n
  pub bound : n ≤ 2 ^ 32 + sum_by large_in views
  pub fit : (id : ℕ) (v : View) → get_elem? views id ≡ some v → Fits count v

-- the rule over the word n and all views, where there are to be `drawers` drawers
abbrev pub Kept : ℕ → ℕ → List View → Type 0
Kept drawers n views = (count : ℕ) × IsClaimed drawers count n views

-- the same of the table, between any two steps
abbrev pub Claimed : ℕ → State ℕ View → Type 0
Claimed drawers s = (n : ℕ) × (s.words ≡ n ∷ []) × Kept drawers n s.views

-- a claim: the number found goes to the end of the list of the seat's drawer
abbrev pub drew : ℕ → List DrawerList → List DrawerList
drew n [] = []
drew n (l ∷ ls) = drawer_list l.drawer (l.numbers ++ n ∷ []) ∷ ls

-- the view after it
abbrev pub claimed : ℕ → View → View
claimed n v = view_of v.made (drew n v.lists)

-- what a claim tells: the view after it, and that the number is greater than all before
abbrev pub Claims : Me ℕ View → ℕ → Me ℕ View → Type 0
Claims me found new = (new ≡ (claimed found me.0, me.1)) × AllByRecursion (λ x. x < found) (first_numbers me.0.lists)

-- a split: the view that keeps the count has made one more
abbrev pub counts_on : View → View
counts_on v = view_of (v.made + 1) v.lists

-- the view of the drawer that it made, whose number is the count before
abbrev pub newcomer : View → View
newcomer v = view_of 0 (drawer_list v.made [] ∷ [])

-- a join: the lists of both, and the count where either keeps it
abbrev pub both : View → View → View
both v w = view_of (v.made + w.made) (w.lists ++ v.lists)

-- the view whose lists another has taken
abbrev pub spent : View
spent = view_of 0 []

-- the lists of all `drawers` drawers, where the word was `word` at the end
pub record IsWhole (drawers word : ℕ) (ls : List DrawerList) : Type 0 where
  pub drawers_once : (d : ℕ) → count_by (λ l. l.drawer == d) ls ≡ once_below d drawers
  pub numbers_once : (x : ℕ) → sum_by (λ l. times x l.numbers) ls ≡ once_below x word
  pub fit : AllByRecursion IsDrawerList ls
