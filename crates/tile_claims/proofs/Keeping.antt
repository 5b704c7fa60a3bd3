-- Each kind of step keeps the rule of the claims.
use Rattle.std.proofs.Common.{◌≡◌, ◌≢◌, ℕ, ◌+◌, ◌<◌, ◌≤◌, ◌^◌, ◌%◌, ◌==◌, cond, not, nat_lt, List, [], ◌∷◌, ◌++◌, length, set, sum_by, slice_index, refl, sym, ap, ◌∙◌, subst, arith}
use Rattle.std.specs.List.{AllByRecursion}
use Rattle.std.proofs.lemmas.List.Sums.{sum_by_push, sum_by-append}
use Rattle.std.proofs.lemmas.List.{length-append}
use Rattle.std.proofs.Math.Nat.{mod-eq_of_lt}
use mathlib.Core.Option.{some, some-injective}
use lib.ListN.{get_elem?}
use Rattle.atomic_table.specs.Table.{Act, keeps, Allows, Splits, Joins, Final, Seen, Valid, carried_after}
use Rattle.atomic_table.proofs.Lists.{set_else}
use Rattle.tile_claims.specs.declared.views.View.{View}
use Rattle.tile_claims.specs.declared.views.DrawerList.{DrawerList}
use Rattle.tile_claims.specs.Lists.{times, once_below, large}
use Rattle.tile_claims.specs.Views.{view_of, drawer_list, lists_of, drawn_in, large_in, IsDrawerList, Fits, IsClaimed, Claimed, Claims, counts_on, newcomer, both, spent, IsWhole}
use Rattle.list_totals.proofs.Totals.{total_set, part_of, two_of, within, kept, fit_set, fit_push, whole, one_counts, same_test}
use Rattle.list_totals.proofs.Elements.{each_append}
use Rattle.tile_claims.proofs.Numbers.{each_of_times, times_push, large_push, once_more, is_below, one_more, at_most_one, ascends_push, large_few}

module _ (drawers : ℕ) where
  module _ (count n : ℕ) (views : List View) (r : IsClaimed drawers count n views) where
    pub few_numbers : n ≤ 2 ^ 32 + 4096
    few_numbers = omega (arith, r.bound, r.lists, r.few, r.most, within large_in (λ (v : View). length v.lists) views (λ j u e. large_few u.lists (r.fit j u e).lists))

    no_wrap : (n + 1) % 2 ^ 64 ≡ n + 1
    no_wrap = mod-eq_of_lt (omega (arith, few_numbers))

    -- each number of a list is below the word
    module _ (id made : ℕ) (l : DrawerList) (at : get_elem? views id ≡ some (view_of made (l ∷ []))) where
      drawn_below : AllByRecursion (λ x. x < n) l.numbers
      drawn_below = each_of_times (λ x. x < n) l.numbers (λ x some_time. is_below x n (omega (arith, some_time, part_of (drawn_in x) views id (view_of made (l ∷ [])) at, r.numbers_once x)))

      abbrev after : View
      after = view_of made (drawer_list l.drawer (l.numbers ++ n ∷ []) ∷ [])

      pub drawn_keeps : large l.numbers ≡ 0 → IsClaimed drawers count (n + 1) (set views id after)
      drawn_keeps small =
          let v = view_of made (l ∷ []) in record {
            any = r.any;
            few = r.few;
            most = r.most;
            made = kept (λ (u : View). u.made) views id v after at refl ∙ r.made;
            lists = kept (λ (u : View). length u.lists) views id v after at refl ∙ r.lists;
            drawers_once = λ d. kept (lists_of d) views id v after at refl ∙ r.drawers_once d;
            numbers_once = λ x. omega (arith, total_set (drawn_in x) views id v after at, r.numbers_once x, times_push x l.numbers n, once_more x n);
            bound = one_more n (sum_by large_in views) _ r.bound (omega (arith, total_set large_in views id v after at, large_push l.numbers n));
            fit = fit_set (Fits count) views id after
                (record {
                  made = (r.fit id v at).made;
                  lists = (
                    record {
                      ascends = ascends_push l.numbers n (r.fit id v at).lists.0.ascends drawn_below;
                      few_large = at_most_one n _ (large_push l.numbers n ∙ ap (λ k. k + cond (not (nat_lt n (2 ^ 32))) 1 0) small);
                    },
                    tt,
                  );
                })
                (λ j u _ e. r.fit j u e);
          }

  -- a claim
  pub draws : (id slots made : ℕ) (l : DrawerList) → large l.numbers ≡ 0
      → Allows (Claimed drawers) slots id (view_of made (l ∷ []), []) 0 (λ k. (k + 1) % 2 ^ 64) (Claims (view_of made (l ∷ []), []))
  draws id slots made l small s h homes at fits =
      let n = h.0 in
      let count = h.2.0 in
      let r = h.2.1 in
      let v = view_of made (l ∷ []) in
      let w = after count n s.views r id made l at in
      let Goal : List ℕ → Type 0 = λ ws. (x : View) × (a : Act ℕ) × Valid s.homes [] a
      × Claimed drawers (record { words = set ws 0 ((slice_index ws 0 + 1) % 2 ^ 64); homes = s.homes; views = set s.views id x })
      × Claims (v, []) (slice_index ws 0) (x, carried_after [] a) in
      subst Goal (sym h.1) (
        w,
        keeps,
        tt,
        (n + 1, ap (λ k. k ∷ []) (no_wrap count n s.views r), (count, drawn_keeps count n s.views r id made l at small)),
        (refl, drawn_below count n s.views r id made l at),
      )

  -- a split
  module _ (count n : ℕ) (views : List View) (r : IsClaimed drawers count n views) (id : ℕ) (v : View) (at : get_elem? views id ≡ some v) (counting : 0 < v.made) (room : v.made < drawers) where
    pub split_keeps : IsClaimed drawers (count + 1) n (set views id (counts_on v) ++ newcomer v ∷ [])
    split_keeps =
        let left = counts_on v in
        let right = newcomer v in
        let put = set views id left in
        let f = r.fit id v at in
        let all : v.made ≡ count = f.made counting in record {
          any = omega arith;
          few = omega (arith, all, room);
          most = r.most;
          made = omega (arith, total_set (λ (u : View). u.made) views id v left at, sum_by_push (λ (u : View). u.made) put right, r.made);
          lists = omega (arith, total_set (λ (u : View). length u.lists) views id v left at, sum_by_push (λ (u : View). length u.lists) put right, r.lists);
          drawers_once = λ d. omega (arith, total_set (lists_of d) views id v left at, sum_by_push (lists_of d) put right, r.drawers_once d, once_more d count, same_test v.made count d all);
          numbers_once = λ x. omega (arith, total_set (drawn_in x) views id v left at, sum_by_push (drawn_in x) put right, r.numbers_once x);
          bound = omega (arith, total_set large_in views id v left at, sum_by_push large_in put right, r.bound);
          fit = fit_push (Fits (count + 1)) put right
              (record { made = λ no. absurd (omega (arith, no)); lists = (record { ascends = tt; few_large = omega arith }, tt) })
              (fit_set (Fits (count + 1)) views id left
              (record { made = λ _. ap (λ k. k + 1) all; lists = f.lists })
              (λ j u ne e. record {
                made = λ some_made. absurd (omega (arith, some_made, two_of (λ (z : View). z.made) views id j v u at e ne, r.made, all));
                lists = (r.fit j u e).lists;
              }));
        }

  pub splits : (id : ℕ) (v : View) → 0 < v.made → v.made < drawers → Splits {S = ℕ} (Claimed drawers) id v (counts_on v) (newcomer v)
  splits id v counting room s h at = (h.0, h.1, (h.2.0 + 1, split_keeps h.2.0 h.0 s.views h.2.1 id v at counting room))

  -- a join
  module _ (count n : ℕ) (views : List View) (r : IsClaimed drawers count n views) (id other : ℕ) (v w : View) (at : get_elem? views id ≡ some v) (apart : other ≢ id) (there : get_elem? views other ≡ some w) where
    pub join_keeps : IsClaimed drawers count n (set (set views id (both v w)) other spent)
    join_keeps =
        let all = both v w in
        let put = set views id all in
        let still : get_elem? put other ≡ some w = set_else views id other all apart ∙ there in
        let mine = r.fit id v at in
        let theirs = r.fit other w there in
        let change : (f : View → ℕ) → sum_by f (set put other spent) + f w + f v ≡ sum_by f views + f all + f spent = λ f. omega (arith, total_set f views id v all at, total_set f put other w spent still) in record {
          any = r.any;
          few = r.few;
          most = r.most;
          made = omega (arith, change (λ (u : View). u.made), r.made);
          lists = omega (arith, change (λ (u : View). length u.lists), r.lists, length-append w.lists v.lists);
          drawers_once = λ d. omega (arith, change (lists_of d), r.drawers_once d, sum_by-append (λ (l : DrawerList). cond (l.drawer == d) 1 0) w.lists v.lists);
          numbers_once = λ x. omega (arith, change (drawn_in x), r.numbers_once x, sum_by-append (λ (l : DrawerList). times x l.numbers) w.lists v.lists);
          bound = omega (arith, change large_in, r.bound, sum_by-append (λ (l : DrawerList). large l.numbers) w.lists v.lists);
          fit = fit_set (Fits count) put other spent
              (record { made = λ no. absurd (omega (arith, no)); lists = tt })
              (λ j u _ e. fit_set (Fits count) views id all
              (record {
                made = one_counts v.made w.made count (omega (arith, two_of (λ (z : View). z.made) views id other v w at there apart, r.made)) mine.made theirs.made;
                lists = each_append IsDrawerList w.lists v.lists theirs.lists mine.lists;
              })
              (λ i z _ d. r.fit i z d) j u e);
        }

  pub joins : (id other : ℕ) (v w : View) → Joins {S = ℕ} (Claimed drawers) id v other w (both v w) spent
  joins id other v w s h at apart there =
      (h.0, h.1, (h.2.0, join_keeps h.2.0 h.0 s.views h.2.1 id other v w at apart (sym (set_else s.views id other (both v w) apart) ∙ there)))

  nothing_there : (f : DrawerList → ℕ) (ls : List DrawerList) → length ls ≡ 0 → sum_by f ls ≡ 0
  nothing_there f [] none = refl
  nothing_there f (l ∷ ls) none = absurd (omega (arith, none))

  -- at the end, who has the list of every drawer has every number
  pub closes : (id : ℕ) (v : View) (words slots : List ℕ) → length v.lists ≡ drawers → Final (Seen (Claimed drawers) id v) words slots → (word : ℕ) → get_elem? words 0 ≡ some word → IsWhole drawers word v.lists
  closes id v words slots every final word there =
      let s = final.0 in
      let h = final.1.0 in
      let at = final.1.1 in
      let r = h.2.1 in
      let size : View → ℕ = λ u. length u.lists in
      let counted : h.2.0 ≡ drawers = omega (arith, r.lists, r.few, every, part_of size s.views id v at) in
      let is : h.0 ≡ word = some-injective _ _ (ap (λ ws. get_elem? ws 0) (sym (sym final.2 ∙ h.1)) ∙ there) in
      let total : (f : DrawerList → ℕ) → sum_by (λ (u : View). sum_by f u.lists) s.views ≡ sum_by f v.lists = λ f.
      whole size (λ (u : View). sum_by f u.lists) s.views id v at (omega (arith, r.lists, counted, every)) (λ j u e none. nothing_there f u.lists none) in record {
        drawers_once = λ d. sym (total (λ l. cond (l.drawer == d) 1 0)) ∙ r.drawers_once d ∙ ap (once_below d) counted;
        numbers_once = λ x. sym (total (λ l. times x l.numbers)) ∙ r.numbers_once x ∙ ap (once_below x) is;
        fit = (r.fit id v at).lists;
      }
