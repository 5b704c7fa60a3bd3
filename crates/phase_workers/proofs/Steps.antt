-- What a worker knows after one tile more.
use Rattle.std.proofs.Common.{◌≡◌, ℕ, ◌+◌, ◌<◌, ◌==◌, Bool, true, false, cond, List, [], ◌∷◌, ◌++◌, refl, ap, sym, ◌∙◌, subst, arith}
use Rattle.std.proofs.lemmas.List.{append-nil, append_assoc, length-append}
use mathlib.Core.Logic.{dite}
use mathlib.Core.List.{IsPrefix}
use native.Mathlib.Decide.{ℕ_discrete}
use Rattle.std.specs.List.{AllByRecursion}
use Rattle.core_definitions.specs.Phase.{Posting}
use Rattle.phase_state.specs.declared.posting.Posted.{Posted}
use Rattle.phase_state.specs.declared.posting.Posted.TheVariants.{Added, Repeat}
use Rattle.phase_state.specs.Logs.{posts, posting, tiles_in}
use Rattle.tile_claims.specs.Lists.{times}
use Rattle.phase_state.specs.Logs.{IsPosted}
use Rattle.level_totals.specs.Levels.{IsOwned, Has}
use Rattle.phase_state.proofs.Marks.{nat_is, nat_is_not, posts_push, posts_append, times_push}
use Rattle.phase_state.proofs.Lists.{map_push}
use Rattle.tile_claims.specs.Lists.{Ascends}
use Rattle.phase_workers.specs.Crews.{Did, Swept, added_by}

pub there_of : (r : Posted) (number k : ℕ) (before new : List Posting) → IsPosted r number k before new → 0 < posts k new
there_of Added number k before new h = let z : ◌≡◌ {A = ℕ} (cond (k == k) 1 0) 1 = rw (nat_is k k refl) refl in subst (λ l. 0 < posts k l) (sym h.1) (omega (arith, posts_push k before (posting number k), z))
there_of Repeat number k before new h = subst (λ l. 0 < posts k l) (sym h.1) (omega (arith, h.0))

-- the log after a post has what was seen before it
pub has_of : (r : Posted) (number k : ℕ) (seen before new : List Posting) → IsPrefix seen before → IsPosted r number k before new → Has seen new
has_of Added number k seen before new p h j =
    omega (arith, ap (posts j) p.1, posts_append j seen p.0, ap (posts j) h.1, posts_append j before (posting number k ∷ []))
has_of Repeat number k seen before new p h j = omega (arith, ap (posts j) p.1, posts_append j seen p.0, ap (posts j) h.1)

each_push : (F : Posting → Type 0) (xs : List Posting) (e : Posting) → AllByRecursion F xs → F e → AllByRecursion F (xs ++ e ∷ [])
each_push F [] e h f = (f, tt)
each_push F (x ∷ xs) e h f = (h.0, each_push F xs e h.1 f)

pub kept_of : (r : Posted) (number k : ℕ) (own new : List Posting) → IsOwned r number k own new → (rule : ℕ → Bool) → rule k ≡ false → AllByRecursion (λ e. rule e.tile ≡ false) own → AllByRecursion (λ e. rule e.tile ≡ false) new
kept_of Added number k own new h rule f all = subst (AllByRecursion (λ e. rule e.tile ≡ false)) (sym h) (each_push (λ e. rule e.tile ≡ false) own (posting number k) all f)
kept_of Repeat number k own new h rule f all = subst (AllByRecursion (λ e. rule e.tile ≡ false)) (sym h) all

pub drew_it : (n : ℕ) (xs : List ℕ) → 0 < times n (xs ++ n ∷ [])
drew_it n xs = let z : ◌≡◌ {A = ℕ} (cond (n == n) 1 0) 1 = rw (nat_is n n refl) refl in omega (arith, times_push n n xs, z)

pub did_none : (tells : Bool) (rule : ℕ → Bool) (tiles : ℕ) (seen : List Posting) → Did tells rule tiles [] seen []
did_none tells rule tiles seen = record { went = λ t k less pos no. absurd (omega (arith, pos)); kept = λ t. tt }

pub did_more : (tells : Bool) (rule : ℕ → Bool) (tiles n : ℕ) (drawn : List ℕ) (seen own seen' own' : List Posting) → Did tells rule tiles drawn seen own → Has seen seen'
    → (tells ≡ true → n < tiles → rule n ≡ false → 0 < posts n seen')
    → (tells ≡ true → AllByRecursion (λ e. rule e.tile ≡ false) own → AllByRecursion (λ e. rule e.tile ≡ false) own')
    → Did tells rule tiles (drawn ++ n ∷ []) seen' own'
did_more tells rule tiles n drawn seen own seen' own' d pre go keep = record {
  went = λ t k less pos no. dite (ℕ_discrete n k)
      (λ same. subst (λ j. 0 < posts j seen') same (go t (subst (λ j. j < tiles) (sym same) less) (subst (λ j. rule j ≡ false) (sym same) no)))
      (λ other. let z : ◌≡◌ {A = ℕ} (cond (n == k) 1 0) 0 = rw (nat_is_not n k other) refl in
      let before = d.went t k less (omega (arith, pos, z, times_push k n drawn)) no in
      omega (arith, before, pre k));
  kept = λ t. keep t (d.kept t);
}

-- the last of ascending numbers
ascends_push : (xs : List ℕ) (n : ℕ) → Ascends xs → AllByRecursion (λ x. x < n) xs → Ascends (xs ++ n ∷ [])
ascends_push [] n a l = (tt, tt)
ascends_push (x ∷ xs) n a l = (all_push (λ y. x < y) xs n a.0 l.0, ascends_push xs n a.1 l.1)
  where
    all_push : (F : ℕ → Type 0) (ys : List ℕ) (y : ℕ) → AllByRecursion F ys → F y → AllByRecursion F (ys ++ y ∷ [])
    all_push F [] y h f = (f, tt)
    all_push F (z ∷ zs) y h f = (h.0, all_push F zs y h.1 f)

low_tiles : (n : ℕ) (es : List Posting) → AllByRecursion (λ e. e.tile < n) es → AllByRecursion (λ x. x < n) (tiles_in es)
low_tiles n [] h = tt
low_tiles n (e ∷ es) h = (h.0, low_tiles n es h.1)

lower : (n : ℕ) (es : List Posting) → AllByRecursion (λ e. e.tile < n) es → AllByRecursion (λ e. e.tile < n + 1) es
lower n [] h = tt
lower n (e ∷ es) h = (omega (arith, h.0), lower n es h.1)

pub swept_none : (number : ℕ) (log : List Posting) → Swept number 0 0 log log
swept_none number log = record { more = []; grew = sym (append-nil log); mine = tt; counted = refl; low = tt; ascends = tt; few = omega arith; all = λ k less. absurd (omega (arith, less)) }

pub swept_more : (r : Posted) (number n count : ℕ) (old now new : List Posting) → Swept number n count old now → IsPosted r number n now new → Swept number (n + 1) (count + added_by r) old new
swept_more r number n count old now new s h = go r h
  where
    all_more : (r : Posted) → IsPosted r number n now new → (k : ℕ) → k < n + 1 → 0 < posts k new
    all_more r h k less = dite (ℕ_discrete k n)
        (λ e. subst (λ j. 0 < posts j new) (sym e) (there_of r number n now new h))
        (λ e. let pre = has_of r number n now now new ([], append-nil now) h in omega (arith, s.all k (omega (arith, less, e)), pre k))

    go : (r : Posted) → IsPosted r number n now new → Swept number (n + 1) (count + added_by r) old new
    go Added h = record {
      more = s.more ++ posting number n ∷ [];
      grew = h.1 ∙ (ap (λ l. l ++ posting number n ∷ []) s.grew ∙ append_assoc old s.more (posting number n ∷ []));
      mine = each_push (λ e. e.number ≡ number) s.more (posting number n) s.mine refl;
      counted = length-append s.more (posting number n ∷ []) ∙ ap (λ m. m + 1) s.counted;
      low = each_push (λ e. e.tile < n + 1) s.more (posting number n) (lower n s.more s.low) (omega arith);
      ascends = subst Ascends (sym (map_push (λ e. e.tile) s.more (posting number n))) (ascends_push (tiles_in s.more) n s.ascends (low_tiles n s.more s.low));
      few = omega (arith, s.few);
      all = all_more Added h;
    }
    go Repeat h = let z : count + 0 ≡ count = omega arith in subst (λ c. Swept number (n + 1) c old new) (sym z) (record {
      more = s.more;
      grew = h.1 ∙ s.grew;
      mine = s.mine;
      counted = s.counted;
      low = lower n s.more s.low;
      ascends = s.ascends;
      few = omega (arith, s.few);
      all = all_more Repeat h;
    })
