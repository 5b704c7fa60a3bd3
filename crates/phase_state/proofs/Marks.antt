-- Marks, and the logs that they tell of.
use Rattle.std.proofs.Common.{◌≡◌, ◌≢◌, ℕ, zero, suc, ◌+◌, ◌<◌, ◌≤◌, ◌==◌, Bool, true, false, nat_lt, cond, List, [], ◌∷◌, ◌++◌, length, count_by, set, replicate, slice_index_or, refl, ap, sym, ◌∙◌, subst, arith, true≢false, inl, inr}
use Rattle.std.specs.Prelude.{if◌then◌else◌}
use Rattle.std.proofs.lemmas.List.{get_or-set_same, get_or-set_other, get_or_past}
use Rattle.std.proofs.lemmas.List.Sums.{sum_by-append, sum_by-cons, sum_by-set}
use Rattle.std.proofs.lemmas.Bool.{cases_lt}
use Rattle.std.proofs.lemmas.Bool.Decides.{nat_tests}
use mathlib.Core.Logic.{dite}
use native.Mathlib.Decide.{ℕ_discrete}
use Rattle.tile_claims.specs.Lists.{times, once_below}
use Rattle.core_definitions.specs.Phase.{Posting}
use Rattle.phase_state.specs.Logs.{tiles_in, posts, posting}
use Rattle.phase_state.proofs.Lists.{map_push}

pub nat_is : (a b : ℕ) → a ≡ b → (a == b) ≡ true
nat_is a b e = grind (arith, nat_tests)

pub nat_is_not : (a b : ℕ) → a ≢ b → (a == b) ≡ false
nat_is_not a b e = grind (arith, nat_tests)

pub lt_is : (k n : ℕ) → k < n → nat_lt k n ≡ true
lt_is k n less = grind (arith, nat_tests)

pub lt_not : (k n : ℕ) → n ≤ k → nat_lt k n ≡ false
lt_not k n le = grind (arith, nat_tests)

pub below_is : (k n : ℕ) → k < n → once_below k n ≡ 1
below_is k n less = ap (λ b. if b then 1 else 0) (lt_is k n less)

pub below_not : (k n : ℕ) → n ≤ k → once_below k n ≡ 0
below_not k n le = ap (λ b. if b then 1 else 0) (lt_not k n le)

pub times_push : (k n : ℕ) (xs : List ℕ) → times k (xs ++ n ∷ []) ≡ times k xs + cond (n == k) 1 0
times_push k n xs = omega (arith, sum_by-append (λ (y : ℕ). cond (y == k) 1 0) xs (n ∷ []))

pub posts_push : (k : ℕ) (log : List Posting) (e : Posting) → posts k (log ++ e ∷ []) ≡ posts k log + cond (e.tile == k) 1 0
posts_push k log e = ap (times k) (map_push (λ e. e.tile) log e) ∙ times_push k e.tile (tiles_in log)

pub posts_append : (k : ℕ) (xs ys : List Posting) → posts k (xs ++ ys) ≡ posts k xs + posts k ys
posts_append k [] ys = omega arith
posts_append k (x ∷ xs) ys = omega (arith, sum_by-cons (λ (y : ℕ). cond (y == k) 1 0) x.tile (tiles_in xs), sum_by-cons (λ (y : ℕ). cond (y == k) 1 0) x.tile (tiles_in (xs ++ ys)), posts_append k xs ys)

pub mark_none : (n k : ℕ) → ◌≡◌ {A = ℕ} 0 (cond (slice_index_or (replicate n false) k false) 1 0)
mark_none zero k = refl
mark_none (suc n) zero = refl
mark_none (suc n) (suc k) = mark_none n k

pub count_none : (n : ℕ) → ◌≡◌ {A = ℕ} 0 (count_by (λ b. b) (replicate n false))
count_none zero = refl
count_none (suc n) = count_none n

pub count_most : (bs : List Bool) → count_by (λ b. b) bs ≤ length bs
count_most [] = omega arith
count_most (true ∷ bs) = let m = count_most bs in omega (arith, m, sum_by-cons (λ (b : Bool). cond b 1 0) true bs)
count_most (false ∷ bs) = let m = count_most bs in omega (arith, m, sum_by-cons (λ (b : Bool). cond b 1 0) false bs)

-- a mark more
pub count_set : (marks : List Bool) (k : ℕ) → k < length marks → slice_index_or marks k false ≡ false
    → ◌≡◌ {A = ℕ} (count_by (λ b. b) (set marks k true)) (count_by (λ b. b) marks + 1)
count_set marks k less is =
    let s = sum_by-set (λ (b : Bool). cond b 1 0) marks k true false less in
    let z : ◌≡◌ {A = ℕ} (cond (slice_index_or marks k false) 1 0) 0 = rw is refl in
    omega (arith, s, z)

pub count_less : (marks : List Bool) (k : ℕ) → k < length marks → slice_index_or marks k false ≡ false → count_by (λ b. b) marks < length marks
count_less [] k less is = absurd (omega (arith, less))
count_less (false ∷ bs) zero less is = let m = count_most bs in omega (arith, m, sum_by-cons (λ (b : Bool). cond b 1 0) false bs)
count_less (true ∷ bs) zero less is = absurd (true≢false is)
count_less (true ∷ bs) (suc k) less is = let m = count_less bs k (omega (arith, less)) is in omega (arith, m, sum_by-cons (λ (b : Bool). cond b 1 0) true bs)
count_less (false ∷ bs) (suc k) less is = let m = count_less bs k (omega (arith, less)) is in omega (arith, m, sum_by-cons (λ (b : Bool). cond b 1 0) false bs)

pub mark_set : (log : List Posting) (marks : List Bool) (number k : ℕ) → k < length marks → slice_index_or marks k false ≡ false
    → ((j : ℕ) → ◌≡◌ {A = ℕ} (posts j log) (cond (slice_index_or marks j false) 1 0))
    → (j : ℕ) → ◌≡◌ {A = ℕ} (posts j (log ++ posting number k ∷ [])) (cond (slice_index_or (set marks k true) j false) 1 0)
mark_set log marks number k less is once j = posts_push j log (posting number k) ∙ dite (ℕ_discrete k j)
    (λ same. let s = get_or-set_same marks k true false less in
    rw (sym same) (rw (s, nat_is k k refl) (let o = rw is at (once k) in omega (arith, o))))
    (λ other. let s = get_or-set_other marks k j true false (λ e. other (sym e)) in rw (s, nat_is_not k j other) (omega (arith, once j)))

-- ---- which tiles are marked

one_most : (b : Bool) → ◌≤◌ (cond {A = ℕ} b 1 0) 1
one_most true = omega arith
one_most false = omega arith

-- a mark past the end is none
pub past_none : (marks : List Bool) (k : ℕ) → length marks ≤ k → ◌≡◌ {A = ℕ} (cond (slice_index_or marks k false) 1 0) 0
past_none marks k le = ap (λ b. cond b 1 0) (get_or_past marks k false le)

pub mark_below : (marks : List Bool) (k : ℕ) → ◌≤◌ (cond {A = ℕ} (slice_index_or marks k false) 1 0) (once_below k (length marks))
mark_below marks k = elim (cases_lt k (length marks)) [
  | inl less ↦ subst (λ n. ◌≤◌ (cond {A = ℕ} (slice_index_or marks k false) 1 0) n) (sym (below_is k (length marks) less)) (one_most (slice_index_or marks k false))
  | inr le ↦ omega (arith, past_none marks k le)
]

-- where all are counted, each is marked
pub full_marks : (marks : List Bool) → count_by (λ b. b) marks ≡ length marks → (k : ℕ) → k < length marks → slice_index_or marks k false ≡ true
full_marks [] full k less = absurd (omega (arith, less))
full_marks (false ∷ bs) full k less = let m = count_most bs in absurd (omega (arith, full, m, sum_by-cons (λ (b : Bool). cond b 1 0) false bs))
full_marks (true ∷ bs) full zero less = refl
full_marks (true ∷ bs) full (suc k) less = full_marks bs (omega (arith, full, sum_by-cons (λ (b : Bool). cond b 1 0) true bs)) k (omega (arith, less))

-- where each is marked, all are counted
pub marks_full : (marks : List Bool) → ((k : ℕ) → k < length marks → ◌≡◌ {A = ℕ} (cond (slice_index_or marks k false) 1 0) 1) → count_by (λ b. b) marks ≡ length marks
marks_full [] each = refl
marks_full (false ∷ bs) each = absurd (omega (arith, each 0 (omega arith)))
marks_full (true ∷ bs) each =
    omega (arith, sum_by-cons (λ (b : Bool). cond b 1 0) true bs, marks_full bs (λ k less. each (suc k) (omega (arith, less))))
