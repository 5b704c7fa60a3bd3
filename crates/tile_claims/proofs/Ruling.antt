-- What the claims keep says the rule in plain words.
use Rattle.std.proofs.Common.{◌≡◌, ℕ, zero, suc, ◌+◌, ◌<◌, ◌≤◌, ◌^◌, ◌==◌, not, nat_lt, cond, List, [], ◌∷◌, length, sum_by, refl, sym, ap, ◌∙◌, subst, arith, eq-eqb}
use Rattle.std.specs.List.{AllByRecursion}
use Rattle.std.proofs.lemmas.List.Sums.{sum_by-cons}
use Rattle.std.proofs.lemmas.Bool.Decides.{nat_tests}
use mathlib.Core.Option.{some, some-injective, some-ne-none}
use lib.ListN.{get_elem?}
use Rattle.tile_claims.specs.declared.views.View.{View}
use Rattle.tile_claims.specs.declared.views.DrawerList.{DrawerList}
use Rattle.tile_claims.specs.ExactlyOne.{ExactlyOne}
use Rattle.tile_claims.specs.Lists.{Ascends, times, once_below, large}
use Rattle.tile_claims.specs.Views.{lists_of, drawn_in, large_in, IsDrawerList, IsClaimed}
use Rattle.tile_claims.specs.Rule.{KeepsCount, HasList, HasListOf, HasNumber, lists_with_large, Rule}
use Rattle.list_totals.proofs.Totals.{part_of, within}
use Rattle.tile_claims.proofs.Numbers.{is_below}
use Rattle.tile_claims.proofs.Keeping.{few_numbers}
use Rattle.tile_claims.proofs.Places.{is_counted, OnePlace, whole_place, one_place, same_value}

once_is_one : (x n : ℕ) → x < n → once_below x n ≡ 1
once_is_one x n h = grind (arith, nat_tests)

counts_itself : (a k : ℕ) → a ≡ k → ◌≡◌ {A = ℕ} (cond (a == k) 1 0) 1
counts_itself a k e = rw (eq-eqb a k e) refl

-- an element of a list meets what each one meets
each_at : {X : Type 0} (F : X → Type 0) (xs : List X) (k : ℕ) (x : X) → AllByRecursion F xs → get_elem? xs k ≡ some x → F x
each_at F [] k x h at = absurd (some-ne-none x (sym at))
each_at F (y ∷ ys) zero x h at = subst F (some-injective _ _ at) h.0
each_at F (y ∷ ys) (suc k) x h at = each_at F ys k x h.1 at

-- of ascending numbers with one large one at most, the large one is the last
last_large : (xs : List ℕ) → Ascends xs → large xs ≤ 1 → (k x : ℕ) → get_elem? xs k ≡ some x → 2 ^ 32 ≤ x → k + 1 ≡ length xs
last_large [] up few k x at big = absurd (some-ne-none x (sym at))
last_large (y ∷ []) up few zero x at big = refl
last_large (y ∷ []) up few (suc k) x at big = absurd (some-ne-none x (sym at))
last_large (y ∷ z ∷ zs) up few zero x at big =
    let first : y ≡ x = some-injective _ _ at in
    let more = sum_by-cons (λ n. cond (not (nat_lt n (2 ^ 32))) 1 0) in
    let second : y < z = up.0.0 in
    absurd (two_large y z (large zs) (omega (arith, first, big)) (omega (arith, first, big, second)) (omega (arith, few, more y (z ∷ zs), more z zs)))
  where
    two_large : (a b rest : ℕ) → 2 ^ 32 ≤ a → 2 ^ 32 ≤ b → cond (not (nat_lt a (2 ^ 32))) 1 0 + (cond (not (nat_lt b (2 ^ 32))) 1 0 + rest) ≤ 1 → ⊥
    two_large a b rest ha hb h = grind (arith, nat_tests)
last_large (y ∷ z ∷ zs) up few (suc k) x at big =
    let rest = last_large (z ∷ zs) up.1 (omega (arith, few, sum_by-cons (λ n. cond (not (nat_lt n (2 ^ 32))) 1 0) y (z ∷ zs))) k x at big in omega (arith, rest)

-- the lists with a large number are as many as the large numbers
large_lists : (ls : List DrawerList) → AllByRecursion IsDrawerList ls → sum_by (λ l. large l.numbers) ls ≤ sum_by (λ l. cond (nat_lt 0 (large l.numbers)) 1 0) ls
large_lists [] h = omega arith
large_lists (l ∷ ls) h =
    omega (arith, large_lists ls h.1, sum_by-cons (λ (z : DrawerList). large z.numbers) l ls, sum_by-cons (λ (z : DrawerList). cond (nat_lt 0 (large z.numbers)) 1 0) l ls, one (large l.numbers) h.0.few_large)
  where
    one : (k : ℕ) → k ≤ 1 → k ≤ cond (nat_lt 0 k) 1 0
    one k few = grind (arith, nat_tests)

module _ (drawers count n : ℕ) (views : List View) (r : IsClaimed drawers count n views) where
  one_keeper : ExactlyOne (KeepsCount views)
  one_keeper =
      let one = whole_place count (λ (v : View). v.made) views r.any (λ id v at. (r.fit id v at).made) r.made in
      (one.place, (one.value, one.there, omega (arith, one.is, r.any)), λ id h. one.alone id h.0 h.1 h.2)

  module _ (drawer : ℕ) (below : drawer < count) where
    in_view : OnePlace 1 (lists_of drawer) views
    in_view = one_place (lists_of drawer) views (r.drawers_once drawer ∙ once_is_one drawer count below)

    in_lists : OnePlace 1 (λ (l : DrawerList). cond (l.drawer == drawer) 1 0) in_view.value.lists
    in_lists = one_place _ in_view.value.lists in_view.is

    only_list : (p : ℕ × ℕ) → HasListOf views drawer p → p ≡ (in_view.place, in_lists.place)
    only_list p h =
        let l = h.0 in
        let v = h.1.0 in
        let mine = counts_itself l.drawer drawer h.2 in
        let some_list : 0 < lists_of drawer v = omega (arith, mine, part_of (λ (z : DrawerList). cond (z.drawer == drawer) 1 0) v.lists p.1 l h.1.2) in
        let same_view : p.0 ≡ in_view.place = in_view.alone p.0 v h.1.1 some_list in
        let is : v ≡ in_view.value = same_value views p.0 in_view.place v in_view.value same_view h.1.1 in_view.there in
        let there : get_elem? in_view.value.lists p.1 ≡ some l = subst (λ (z : View). get_elem? z.lists p.1 ≡ some l) is h.1.2 in
        let same_place : p.1 ≡ in_lists.place = in_lists.alone p.1 l there (omega (arith, mine)) in
        λ i. (same_view i, same_place i)

    one_list : ExactlyOne (HasListOf views drawer)
    one_list = ((in_view.place, in_lists.place), (in_lists.value, (in_view.value, in_view.there, in_lists.there), is_counted _ _ (omega (arith, in_lists.is))), only_list)

  -- a list that stands somewhere is among those of its view
  listed : (p : ℕ × ℕ) (l : DrawerList) → HasList views p l → IsDrawerList l
  listed p l h = each_at IsDrawerList h.0.lists p.1 l (r.fit p.0 h.0 h.1).lists h.2

  no_other_list : (p : ℕ × ℕ) (l : DrawerList) → HasList views p l → l.drawer < count
  no_other_list p l h =
      let mine = counts_itself l.drawer l.drawer refl in
      is_below l.drawer count (omega (arith, mine, part_of (λ (z : DrawerList). cond (z.drawer == l.drawer) 1 0) h.0.lists p.1 l h.2, part_of (lists_of l.drawer) views p.0 h.0 h.1, r.drawers_once l.drawer))

  -- a number that stands somewhere is counted in its list, and in its view
  counted : (p : (ℕ × ℕ) × ℕ) (x : ℕ) (h : HasNumber views x p) → (0 < times x h.0.numbers) × (0 < drawn_in x h.1.0)
  counted p x h =
      let mine = counts_itself x x refl in
      let some_time : 0 < times x h.0.numbers = omega (arith, mine, part_of (λ y. cond (y == x) 1 0) h.0.numbers p.1 x h.2) in
      (some_time, omega (arith, some_time, part_of (λ (z : DrawerList). times x z.numbers) h.1.0.lists p.0.1 h.0 h.1.2))

  no_other_number : (p : (ℕ × ℕ) × ℕ) (x : ℕ) → HasNumber views x p → x < n
  no_other_number p x h = is_below x n (omega (arith, (counted p x h).1, part_of (drawn_in x) views p.0.0 h.1.0 h.1.1, r.numbers_once x))

  module _ (x : ℕ) (below : x < n) where
    x_view : OnePlace 1 (drawn_in x) views
    x_view = one_place (drawn_in x) views (r.numbers_once x ∙ once_is_one x n below)

    x_list : OnePlace 1 (λ (l : DrawerList). times x l.numbers) x_view.value.lists
    x_list = one_place _ x_view.value.lists x_view.is

    x_number : OnePlace 1 (λ y. cond (y == x) 1 0) x_list.value.numbers
    x_number = one_place _ x_list.value.numbers x_list.is

    only_number : (p : (ℕ × ℕ) × ℕ) → HasNumber views x p → p ≡ ((x_view.place, x_list.place), x_number.place)
    only_number p h =
        let l = h.0 in
        let v = h.1.0 in
        let some_time = counted p x h in
        let same_view : p.0.0 ≡ x_view.place = x_view.alone p.0.0 v h.1.1 some_time.1 in
        let is_view : v ≡ x_view.value = same_value views p.0.0 x_view.place v x_view.value same_view h.1.1 x_view.there in
        let l_there : get_elem? x_view.value.lists p.0.1 ≡ some l = subst (λ (z : View). get_elem? z.lists p.0.1 ≡ some l) is_view h.1.2 in
        let same_list : p.0.1 ≡ x_list.place = x_list.alone p.0.1 l l_there some_time.0 in
        let is_list : l ≡ x_list.value = same_value x_view.value.lists p.0.1 x_list.place l x_list.value same_list l_there x_list.there in
        let x_there : get_elem? x_list.value.numbers p.1 ≡ some x = subst (λ (z : DrawerList). get_elem? z.numbers p.1 ≡ some x) is_list h.2 in
        let mine = counts_itself x x refl in
        let same_place : p.1 ≡ x_number.place = x_number.alone p.1 x x_there (omega (arith, mine)) in
        λ i. ((same_view i, same_list i), same_place i)

    one_number : ExactlyOne (HasNumber views x)
    one_number =
        let is : x_number.value ≡ x = is_counted _ _ (omega (arith, x_number.is)) in (
          ((x_view.place, x_list.place), x_number.place),
          (x_list.value, (x_view.value, x_view.there, x_list.there), x_number.there ∙ ap some is),
          only_number,
        )

  bound : n ≤ 2 ^ 32 + lists_with_large views
  bound = omega (arith, r.bound, within large_in (λ (v : View). sum_by (λ (l : DrawerList). cond (nat_lt 0 (large l.numbers)) 1 0) v.lists) views (λ id v at. large_lists v.lists (r.fit id v at).lists))

  pub in_words : Rule n views
  in_words = record {
    count = count;
    most = omega (arith, r.few, r.most);
    one_keeper = one_keeper;
    keeps = λ id v at. (r.fit id v at).made;
    one_list = one_list;
    no_other_list = no_other_list;
    one_number = one_number;
    no_other_number = no_other_number;
    ascends = λ p l h. (listed p l h).ascends;
    last = λ p l h k x at big. let is = listed p l h in last_large l.numbers is.ascends is.few_large k x at big;
    bound = bound;
    no_wrap = few_numbers drawers count n views r;
  }
