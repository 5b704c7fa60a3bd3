-- A list of rows, to each of which one more is added.
use Rattle.std.proofs.Common.{◌≡◌, ℕ, suc, ◌+◌, List, [], ◌∷◌, ◌++◌, length, map, refl, sym, ap, ◌∙◌, arith}
use Rattle.std.specs.List.{AllByRecursion, range_with_len}
use Rattle.std.proofs.lemmas.List.{map-append}
use Rattle.list_totals.proofs.Elements.{further}
use Rattle.turn_lock.specs.Seen.{LockId, LockSeen, PassSeen, fresh_pass, fresh_passes}
use Rattle.lock_row.specs.Rows.{fresh_row, fresh_rows, plans_of, locks_of}
use Rattle.lock_row.specs.Columns.{each_more}

-- a list of nothing but empty lists, one longer
pub empties : {X : Type 0} (f : ℕ → List X) → ((k : ℕ) → f k ≡ []) → (n : ℕ) → map f (range_with_len 0 n) ++ [] ∷ [] ≡ map f (range_with_len 0 (n + 1))
empties f none n =
    let e : suc n ≡ n + 1 = omega arith in
    ap (λ x. map f (range_with_len 0 n) ++ x ∷ []) (sym (none (0 + n))) ∙ further f 0 n ∙ ap (λ k. map f (range_with_len 0 k)) e

pub none_left : {X : Type 0} (xs : List X) → length xs ≡ 0 → xs ≡ []
none_left [] e = refl
none_left (x ∷ xs) e = absurd (omega (arith, e))

pub each_push : {X : Type 0} (F : X → Type 0) (xs : List X) (x : X) → AllByRecursion F xs → F x → AllByRecursion F (xs ++ x ∷ [])
each_push F [] x all is = (is, tt)
each_push F (y ∷ ys) x all is = (all.0, each_push F ys x all.1 is)

module _ {P E : Type 0} (locks : List (LockId P)) (lock : LockId P) where
  row_more : (n : ℕ) → fresh_row {E = E} locks n ++ fresh_pass lock n ∷ [] ≡ fresh_row (locks ++ lock ∷ []) n
  row_more n = sym (map-append (λ l. fresh_pass l n) locks (lock ∷ []))

  each_more_rows : (ns : List ℕ) → each_more (map (fresh_pass {E = E} lock) ns) (map (fresh_row locks) ns) ≡ map (fresh_row (locks ++ lock ∷ [])) ns
  each_more_rows [] = refl
  each_more_rows (n ∷ ns) = λ i. row_more n i ∷ each_more_rows ns i

  -- the passes of a new lock make those of the longer row
  pub rows_more : (count : ℕ) → each_more (fresh_passes {E = E} lock count) (fresh_rows locks count) ≡ fresh_rows (locks ++ lock ∷ []) count
  rows_more count = each_more_rows (range_with_len 0 count)

module _ {P E : Type 0} (passes : ℕ) (turns : List (LockSeen P)) (turn : LockSeen P) where
  pub rows_step : (after : List (LockSeen P)) (made : List (PassSeen P E)) (rows new : List (List (PassSeen P E))) → rows ≡ fresh_rows (map (λ (t : LockSeen P). t.lock) turns) passes
      → made ≡ fresh_passes turn.lock passes → new ≡ each_more made rows → after ≡ turns ++ turn ∷ [] → new ≡ fresh_rows (map (λ (t : LockSeen P). t.lock) after) passes
  rows_step after made rows new was deals more pushed =
      let locks = map (λ (t : LockSeen P). t.lock) turns in
      more ∙ (λ i. each_more (deals i) (was i)) ∙ rows_more locks turn.lock passes
      ∙ ap (λ l. fresh_rows l passes) (sym (ap (map (λ (t : LockSeen P). t.lock)) pushed ∙ map-append (λ (t : LockSeen P). t.lock) turns (turn ∷ [])))

module _ {P : Type 0} (turns : List (LockSeen P)) (turn : LockSeen P) where
  pub plans_step : {S : Type 0} (plan : S → P) (after : List (LockSeen P)) (rest left : List S) (value : S) (all : List P)
      → plans_of (map (λ (t : LockSeen P). t.lock) turns) ++ map plan rest ≡ all → rest ≡ value ∷ left → turn.lock.plan ≡ plan value → after ≡ turns ++ turn ∷ []
      → plans_of (map (λ (t : LockSeen P). t.lock) after) ++ map plan left ≡ all
  plans_step plan after rest left value all was next planned pushed =
      ap (λ l. plans_of (map (λ (t : LockSeen P). t.lock) l) ++ map plan left) pushed ∙ moved turns ∙ sym (ap (λ l. plans_of (map (λ (t : LockSeen P). t.lock) turns) ++ map plan l) next) ∙ was
    where
      moved : (ts : List (LockSeen P)) → plans_of (map (λ (t : LockSeen P). t.lock) (ts ++ turn ∷ [])) ++ map plan left ≡ plans_of (map (λ (t : LockSeen P). t.lock) ts) ++ (plan value ∷ map plan left)
      moved [] = ap (λ p. p ∷ map plan left) planned
      moved (t ∷ ts) = ap (λ l. t.lock.plan ∷ l) (moved ts)

module _ {P : Type 0} (E : Type 0) (locks : List (LockId P)) where
  fits : (ls : List (LockId P)) (n : ℕ) → locks_of (fresh_row {E = E} ls n) ≡ ls
  fits [] n = refl
  fits (l ∷ ls) n = ap (λ r. l ∷ r) (fits ls n)

  -- each pass of a new row is of the row's locks
  pub fresh_fits : (ns : List ℕ) → AllByRecursion (λ row. locks_of row ≡ locks) (map (fresh_row {E = E} locks) ns)
  fresh_fits [] = tt
  fresh_fits (n ∷ ns) = (fits locks n, fresh_fits ns)
