-- The lists of drawers that are handed in.
use Rattle.std.proofs.Common.{◌≡◌, ℕ, ◌==◌, cond, List, [], ◌∷◌, ◌++◌, length, map, sum_by, refl, sym, ap, ◌∙◌, subst, arith}
use Rattle.std.specs.List.{AllByRecursion}
use Rattle.std.proofs.lemmas.List.{append_assoc}
use Rattle.std.proofs.lemmas.List.Sums.{sum_by-cons}
use Rattle.tile_claims.specs.declared.views.DrawerList.{DrawerList}
use Rattle.tile_claims.specs.Drawers.{DrawerSeen, all_drawn, list_of}
use Rattle.tile_claims.specs.Lists.{Ascends, AreNumberedOnce, HasEachBelowOnce, once_below, times}
use Rattle.tile_claims.specs.Views.{IsDrawerList, IsWhole}
use Rattle.tile_claims.proofs.Numbers.{times-append}

-- a total over the lists is one over the drawers
lists_total : (f : DrawerList → ℕ) (ds : List DrawerSeen) → sum_by f (map list_of ds) ≡ sum_by (λ d. f (list_of d)) ds
lists_total f [] = refl
lists_total f (d ∷ ds) = omega (arith, sum_by-cons f (list_of d) (map list_of ds), sum_by-cons (λ (e : DrawerSeen). f (list_of e)) d ds, lists_total f ds)

-- how often x was drawn, counted drawer by drawer
times-all_drawn : (x : ℕ) (ds : List DrawerSeen) → times x (all_drawn ds) ≡ sum_by (λ d. times x d.drawn) ds
times-all_drawn x [] = refl
times-all_drawn x (d ∷ ds) = omega (arith, times-append x d.drawn (all_drawn ds), sum_by-cons (λ (e : DrawerSeen). times x e.drawn) d ds, times-all_drawn x ds)

lists_ascend : (ds : List DrawerSeen) → AllByRecursion IsDrawerList (map list_of ds) → AllByRecursion (λ d. Ascends d.drawn) ds
lists_ascend [] h = tt
lists_ascend (d ∷ ds) h = (h.0.ascends, lists_ascend ds h.1)

pub map_last : (ds : List DrawerSeen) (d : DrawerSeen) → map list_of (ds ++ d ∷ []) ≡ map list_of ds ++ list_of d ∷ []
map_last [] d = refl
map_last (e ∷ es) d = ap (λ l. list_of e ∷ l) (map_last es d)

-- the last drawer's list goes to the front of those that were taken in
pub taken_in : (ds : List DrawerSeen) (d : DrawerSeen) (ls : List DrawerList) → map list_of (ds ++ d ∷ []) ++ ls ≡ map list_of ds ++ (list_of d ∷ ls)
taken_in ds d ls = ap (λ l. l ++ ls) (map_last ds d) ∙ append_assoc (map list_of ds) (list_of d ∷ []) ls

-- no drawer is left, so every list was taken in
pub all_taken_in : (left ds : List DrawerSeen) (ls : List DrawerList) → left ≡ [] → map list_of left ++ ls ≡ map list_of ds → ls ≡ map list_of ds
all_taken_in left ds ls none all = sym (ap (λ l. map list_of l ++ ls) none) ∙ all

-- what the whole lists say of the drawers
module _ (drawers word : ℕ) (ls : List DrawerList) (ds : List DrawerSeen) (whole : IsWhole drawers word ls) (all : ls ≡ map list_of ds) where
  pub drawn_once : HasEachBelowOnce word (all_drawn ds)
  drawn_once x =
      times-all_drawn x ds ∙ sym (lists_total (λ (l : DrawerList). times x l.numbers) ds) ∙ sym (ap (sum_by (λ (l : DrawerList). times x l.numbers)) all) ∙ whole.numbers_once x

  pub drawn_ascend : AllByRecursion (λ d. Ascends d.drawn) ds
  drawn_ascend = lists_ascend ds (subst (AllByRecursion IsDrawerList) all whole.fit)

  pub numbered_once : drawers ≡ length ds → AreNumberedOnce (λ (d : DrawerSeen). d.number) ds
  numbered_once count k =
      let f : DrawerList → ℕ = λ l. cond (l.drawer == k) 1 0 in
      sym (lists_total f ds) ∙ sym (ap (sum_by f) all) ∙ whole.drawers_once k ∙ ap (once_below k) count
