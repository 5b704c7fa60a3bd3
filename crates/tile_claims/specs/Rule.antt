-- The rule of the claims in plain words, over the word n and the views of all seats; and the three kinds of step.
-- A view that is spent keeps no count and has no list.
use Rattle.std.specs.Prelude.{ℕ, ◌+◌, ◌≡◌, ◌≢◌, ◌≤◌, ◌<◌, ◌^◌, nat_lt, List, [], ◌∷◌, ◌++◌, length, set, sum_by, count_by}
use mathlib.Core.Option.{some}
use lib.ListN.{get_elem?}
use Rattle.tile_claims.specs.declared.views.View.{View}
use Rattle.tile_claims.specs.declared.views.DrawerList.{DrawerList}
use Rattle.tile_claims.specs.ExactlyOne.{ExactlyOne}
use Rattle.tile_claims.specs.Lists.{Ascends, large}
use Rattle.tile_claims.specs.Views.{view_of, drawer_list, counts_on, newcomer, both, spent}

-- the view at that place keeps the count
abbrev pub KeepsCount : List View → ℕ → Type 0
KeepsCount views id = (v : View) × (get_elem? views id ≡ some v) × (0 < v.made)

-- the list stands there: p has the place of its view, and its place in that view
abbrev pub HasList : List View → ℕ × ℕ → DrawerList → Type 0
HasList views p l = (v : View) × (get_elem? views p.0 ≡ some v) × (get_elem? v.lists p.1 ≡ some l)

-- a list of that drawer stands there
abbrev pub HasListOf : List View → ℕ → ℕ × ℕ → Type 0
HasListOf views drawer p = (l : DrawerList) × HasList views p l × (l.drawer ≡ drawer)

-- the number x stands there: p has the place of its list, and its place in that list
abbrev pub HasNumber : List View → ℕ → (ℕ × ℕ) × ℕ → Type 0
HasNumber views x p = (l : DrawerList) × HasList views p.0 l × (get_elem? l.numbers p.1 ≡ some x)

-- how many lists of the views have a number that is 2 ^ 32 or more
abbrev pub lists_with_large : List View → ℕ
lists_with_large views = sum_by (λ v. count_by (λ l. nat_lt 0 (large l.numbers)) v.lists) views

-- the rule: drawers, numbers and the word
pub record Rule (n : ℕ) (views : List View) : Type 0 where
  -- one view keeps how many drawers were made, at most 4096
  pub count : ℕ
  pub most : count ≤ 4096
  pub one_keeper : ExactlyOne (KeepsCount views)
  pub keeps : (id : ℕ) (v : View) → get_elem? views id ≡ some v → 0 < v.made → v.made ≡ count
  -- each drawer below the count has exactly one list, in exactly one view, and no other drawer has one
  pub one_list : (drawer : ℕ) → drawer < count → ExactlyOne (HasListOf views drawer)
  pub no_other_list : (p : ℕ × ℕ) (l : DrawerList) → HasList views p l → l.drawer < count
  -- each number below n stands in exactly one list, once, and no other number does
  pub one_number : (x : ℕ) → x < n → ExactlyOne (HasNumber views x)
  pub no_other_number : (p : (ℕ × ℕ) × ℕ) (x : ℕ) → HasNumber views x p → x < n
  -- the numbers of a list ascend, and only the last may be 2 ^ 32 or more
  pub ascends : (p : ℕ × ℕ) (l : DrawerList) → HasList views p l → Ascends l.numbers
  pub last : (p : ℕ × ℕ) (l : DrawerList) → HasList views p l → (k x : ℕ)
      → get_elem? l.numbers k ≡ some x → 2 ^ 32 ≤ x → k + 1 ≡ length l.numbers
  -- n is at most 2 ^ 32 plus the number of lists with such a number, so it stays far below 2 ^ 64
  pub bound : n ≤ 2 ^ 32 + lists_with_large views
  pub no_wrap : n ≤ 2 ^ 32 + 4096

-- what a claim does: n goes up by 1, and the number goes to the end of the list of the one drawer; no other view changes
abbrev pub KeptByClaims : (ℕ → List View → Type 0) → Type 0
KeptByClaims Holds =
    (n : ℕ) (views : List View) (id made : ℕ) (l : DrawerList) → Holds n views
    → get_elem? views id ≡ some (view_of made (l ∷ [])) → large l.numbers ≡ 0
    → Holds (n + 1) (set views id (view_of made (drawer_list l.drawer (l.numbers ++ n ∷ []) ∷ [])))

-- what a split does: the view that keeps the count makes a drawer of that number, with an empty list, and the count goes up by 1
abbrev pub KeptBySplits : ℕ → (ℕ → List View → Type 0) → Type 0
KeptBySplits drawers Holds =
    (n : ℕ) (views : List View) (id : ℕ) (v : View) → Holds n views
    → get_elem? views id ≡ some v → 0 < v.made → v.made < drawers
    → Holds n (set views id (counts_on v) ++ newcomer v ∷ [])

-- what a join does: the lists of one view, and the count where it has it, go to another, and the first is spent
abbrev pub KeptByJoins : (ℕ → List View → Type 0) → Type 0
KeptByJoins Holds =
    (n : ℕ) (views : List View) (id other : ℕ) (v w : View) → Holds n views
    → get_elem? views id ≡ some v → other ≢ id → get_elem? views other ≡ some w
    → Holds n (set (set views id (both v w)) other spent)
