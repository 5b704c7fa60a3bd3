-- What contracts see of a claims object and of a drawer.
use Rattle.std.specs.Prelude.{ℕ, ◌≡◌, ◌≤◌, ◌<◌, Bool, false, List, [], ◌∷◌, ◌++◌, Option, MatchOption, is_none, map, flat_map}
use Rattle.std.specs.List.{AllByRecursion, range_with_len}
use Rattle.atomic_table.specs.Seated.{TableId}
use Rattle.tile_claims.specs.declared.views.DrawerList.{DrawerList}

-- which object it is, how many tiles it hands out, and how many drawers it has
pub record ClaimsSeen : Type 0 where
  pub id : TableId
  pub tiles : ℕ
  pub drawers : ℕ

-- the claims object that the drawer belongs to, its number there, the numbers that it drew, in order,
-- and whether it had a None
pub record DrawerSeen : Type 0 where
  pub claims : TableId
  pub number : ℕ
  pub drawn : List ℕ
  pub had_none : Bool

-- a drawer that has drawn nothing yet
abbrev pub fresh_drawer : TableId → ℕ → DrawerSeen
fresh_drawer claims number = record { claims = claims; number = number; drawn = []; had_none = false }

-- the drawers of a new claims object, by number
abbrev pub fresh_drawers : TableId → ℕ → List DrawerSeen
fresh_drawers claims count = map (fresh_drawer claims) (range_with_len 0 count)

-- the drawer after it drew the number n
abbrev pub after_draw : DrawerSeen → ℕ → Bool → DrawerSeen
after_draw d n had_none = record {
  claims = d.claims;
  number = d.number;
  drawn = d.drawn ++ n ∷ [];
  had_none = had_none;
}

-- what `claim` does: a number that is greater than all before is added to the drawer's list;
-- it is the answer where it is below `tiles`, and else the drawer has its None
abbrev pub IsClaim : ℕ → DrawerSeen → DrawerSeen → Option ℕ → Type 0
IsClaim tiles old new answer =
    (n : ℕ) × AllByRecursion (λ x. x < n) old.drawn × (new ≡ after_draw old n (is_none answer))
    × MatchOption answer (tiles ≤ n) (λ k. (k ≡ n) × (n < tiles))

-- all numbers that these drawers drew
abbrev pub all_drawn : List DrawerSeen → List ℕ
all_drawn ds = flat_map (λ d. d.drawn) ds

-- the drawer's list, as its seat knows it
abbrev pub list_of : DrawerSeen → DrawerList
list_of d = record { drawer = d.number; numbers = d.drawn }
