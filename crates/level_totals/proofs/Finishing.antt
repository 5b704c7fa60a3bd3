-- What the joined logs of all stripes tell of each pass.
use Rattle.std.proofs.Common.{◌≡◌, ℕ, suc, ◌+◌, ◌<◌, ◌≤◌, ◌==◌, cond, List, [], ◌∷◌, ◌++◌, length, count_by, refl, ap, sym, ◌∙◌, subst, arith}
use Rattle.std.proofs.lemmas.List.{length-map}
use Rattle.std.proofs.lemmas.List.Sums.{sum_by-cons}
use Rattle.std.proofs.lemmas.List.Elements.{filter-append}
use Rattle.std.specs.List.{AllByRecursion, flat_map}
use mathlib.Core.List.{IsPrefix}
use Rattle.tile_claims.specs.Plans.{Plan}
use Rattle.turn_lock.specs.Logs.{entries_of}
use Rattle.turn_lock.specs.Places.{NumberedOnce, once_below}
use Rattle.turn_lock.specs.Seen.{LockId, PassSeen}
use Rattle.lock_row.specs.Rows.{locks_of}
use Rattle.lock_row.specs.Columns.{heads, tails}
use Rattle.core_definitions.specs.Phase.{Posting}
use Rattle.phase_state.specs.Logs.{posts}
use Rattle.phase_state.proofs.Marks.{posts_append}
use Rattle.level_totals.specs.declared.held_phase.StripePlan.{StripePlan}
use Rattle.level_totals.specs.Stripes.{stripes_of}
use Rattle.level_totals.specs.Levels.{LevelPassSeen, number_of, seen_of, own_of, IsNumbered, Has, AreStripeLogs, FromStripes}

module _ {X : Type 0} (F : X → Type 0) (G H : List X → Type 0) (none : H []) (go : (x : X) (xs : List X) → F x → G xs → H (x ∷ xs)) where
  -- from what holds of the first of each row, and of the rest of each row
  pub each_row : (rows : List (List X)) → AllByRecursion F (heads rows) → AllByRecursion G (tails rows) → AllByRecursion H rows
  each_row [] f g = tt
  each_row ([] ∷ rows) f g = (none, each_row rows f g.1)
  each_row ((x ∷ xs) ∷ rows) f g = (go x xs f.0 g.0, each_row rows f.1 g.1)

pub each_of : {X : Type 0} (F : X → Type 0) → ((x : X) → F x) → (xs : List X) → AllByRecursion F xs
each_of F h [] = tt
each_of F h (x ∷ xs) = (h x, each_of F h xs)

pub each_from : {X : Type 0} (F G : X → Type 0) → ((x : X) → F x → G x) → (xs : List X) → AllByRecursion F xs → AllByRecursion G xs
each_from F G h [] f = tt
each_from F G h (x ∷ xs) f = (h x f.0, each_from F G h xs f.1)

abbrev joined : List (List Posting) → List Posting
joined logs = flat_map (λ l. l) logs

-- what each pass has seen is there
abbrev HasSeenOf : List (List Posting) → LevelPassSeen → Type 0
HasSeenOf logs pass = length pass ≡ length logs → Has (seen_of pass) (joined logs)

prefix_more : (seen log : List Posting) (rest all : List Posting) → IsPrefix seen log → Has rest all → Has (seen ++ rest) (log ++ all)
prefix_more seen log rest all pre has k =
    let a : posts k seen + posts k pre.0 ≡ posts k log = sym (posts_append k seen pre.0) ∙ ap (posts k) pre.1 in
    omega (arith, a, has k, posts_append k seen rest, posts_append k log all)

none_seen : (pass : LevelPassSeen) → HasSeenOf [] pass
none_seen [] e = λ k. omega arith
none_seen (p ∷ ps) e = absurd (omega (arith, e))

seen_there : (plan : Plan) (at : ℕ) (passes : List LevelPassSeen) (logs : List (List Posting)) → AreStripeLogs plan at passes logs → AllByRecursion (HasSeenOf logs) passes
seen_there plan at passes [] h = each_of (HasSeenOf []) none_seen passes
seen_there plan at passes (log ∷ logs) h =
    each_row (λ (p : PassSeen StripePlan Posting). IsPrefix p.seen log) (HasSeenOf logs) (HasSeenOf (log ∷ logs)) (λ e. absurd (omega (arith, e)))
    (λ p ps pre has e. prefix_more p.seen log (seen_of ps) (joined logs) pre (has (omega (arith, e))))
    passes h.0.seen (seen_there plan (at + 1) (tails passes) logs h.1)

-- its own entries are those of its number
abbrev OwnsOf : List (List Posting) → LevelPassSeen → Type 0
OwnsOf logs pass = length pass ≡ length logs → (number : ℕ) → IsNumbered number pass → own_of pass ≡ entries_of (λ e. e.number) number (joined logs)

none_owned : (pass : LevelPassSeen) → OwnsOf [] pass
none_owned [] e = λ number same. refl
none_owned (p ∷ ps) e = absurd (omega (arith, e))

owned_there : (plan : Plan) (at : ℕ) (passes : List LevelPassSeen) (logs : List (List Posting)) → AreStripeLogs plan at passes logs → AllByRecursion (OwnsOf logs) passes
owned_there plan at passes [] h = each_of (OwnsOf []) none_owned passes
owned_there plan at passes (log ∷ logs) h =
    each_row (λ (p : PassSeen StripePlan Posting). p.own ≡ entries_of (λ (e : Posting). e.number) p.number log) (OwnsOf logs) (OwnsOf (log ∷ logs)) (λ e. absurd (omega (arith, e)))
    (λ p ps own rest e number same.
    let first : p.own ≡ entries_of (λ (e : Posting). e.number) number log = own ∙ ap (λ n. entries_of (λ (e : Posting). e.number) n log) same.0 in
    let others : own_of ps ≡ entries_of (λ (e : Posting). e.number) number (joined logs) = rest (omega (arith, e)) number same.1 in
    (λ i. first i ++ others i) ∙ sym (filter-append (λ (e : Posting). e.number == number) log (joined logs)))
    passes h.0.own (owned_there plan (at + 1) (tails passes) logs h.1)

-- each entry has the number of a pass
heads_few : {X : Type 0} (rows : List (List X)) → length (heads rows) ≤ length rows
heads_few [] = omega arith
heads_few ([] ∷ rows) = omega (arith, heads_few rows)
heads_few ((x ∷ xs) ∷ rows) = omega (arith, heads_few rows)

numbers_low : (a b : ℕ) (log all : List Posting) → a ≤ b → AllByRecursion (λ e. e.number < a) log → AllByRecursion (λ e. e.number < b) all → AllByRecursion (λ e. e.number < b) (log ++ all)
numbers_low a b [] all le h g = g
numbers_low a b (e ∷ es) all le h g = (omega (arith, h.0, le), numbers_low a b es all le h.1 g)

entries_low : (plan : Plan) (at : ℕ) (passes : List LevelPassSeen) (logs : List (List Posting)) → AreStripeLogs plan at passes logs
    → AllByRecursion (λ e. e.number < length passes) (joined logs)
entries_low plan at passes [] h = tt
entries_low plan at passes (log ∷ logs) h =
    numbers_low (length (heads passes)) (length passes) log (joined logs) (heads_few passes) h.0.entries
    (subst (λ n. AllByRecursion (λ (e : Posting). e.number < n) (joined logs)) (length-map passes _) (entries_low plan (at + 1) (tails passes) logs h.1))

-- each number below the count is one pass's
abbrev Some : LevelPassSeen → Type 0
Some pass = 0 < length pass

heads_count : (passes : List LevelPassSeen) → AllByRecursion Some passes → length (heads passes) ≡ length passes
heads_count [] some = refl
heads_count ([] ∷ rows) some = absurd (omega (arith, some.0))
heads_count ((p ∷ ps) ∷ rows) some = ap suc (heads_count rows some.1)

heads_numbered : (k : ℕ) (passes : List LevelPassSeen) → AllByRecursion Some passes → count_by (λ p. p.number == k) (heads passes) ≡ count_by (λ pass. number_of pass == k) passes
heads_numbered k [] some = refl
heads_numbered k ([] ∷ rows) some = absurd (omega (arith, some.0))
heads_numbered k ((p ∷ ps) ∷ rows) some =
    omega (
      arith,
      heads_numbered k rows some.1,
      sum_by-cons (λ (q : PassSeen StripePlan Posting). cond (q.number == k) 1 0) p (heads rows),
      sum_by-cons (λ (pass : LevelPassSeen). cond (number_of pass == k) 1 0) (p ∷ ps) rows,
    )

numbered : (passes : List LevelPassSeen) → AllByRecursion Some passes → NumberedOnce (λ p. p.number) (heads passes) → NumberedOnce number_of passes
numbered passes some h k = sym (heads_numbered k passes some) ∙ h k ∙ ap (once_below k) (heads_count passes some)

first_numbered : (plan : Plan) (at : ℕ) (passes : List LevelPassSeen) (logs : List (List Posting)) → 0 < length logs → AllByRecursion Some passes → AreStripeLogs plan at passes logs → NumberedOnce number_of passes
first_numbered plan at passes [] pos some h = absurd (omega (arith, pos))
first_numbered plan at passes (log ∷ logs) pos some h = numbered passes some h.0.numbers

-- ---- of passes that have a lock for each stripe

module _ (plan : Plan) (locks : List (LockId StripePlan)) (passes : List LevelPassSeen) (log : List Posting) (from : FromStripes plan passes log)
    (count : length locks ≡ stripes_of plan) (mine : AllByRecursion (λ pass. locks_of pass ≡ locks) passes) where
  long : (pass : LevelPassSeen) → locks_of pass ≡ locks → length pass ≡ length from.logs
  long pass is = sym (length-map pass (λ (p : PassSeen StripePlan Posting). p.lock)) ∙ ap length is ∙ count ∙ sym from.count

  -- what F tells of a pass with a lock for each stripe, G tells of the whole log
  each : (F G : LevelPassSeen → Type 0) → ((pass : LevelPassSeen) → length pass ≡ length from.logs → F pass → G pass) → AllByRecursion F passes → AllByRecursion G passes
  each F G go f = go_on passes mine f
    where
      go_on : (ps : List LevelPassSeen) → AllByRecursion (λ pass. locks_of pass ≡ locks) ps → AllByRecursion F ps → AllByRecursion G ps
      go_on [] m h = tt
      go_on (p ∷ ps) m h = (go p (long p m.0) h.0, go_on ps m.1 h.1)

  pub all_seen : AllByRecursion (λ pass. Has (seen_of pass) log) passes
  all_seen =
      each (HasSeenOf from.logs) (λ pass. Has (seen_of pass) log) (λ pass e has. subst (Has (seen_of pass)) (sym from.joined) (has e))
      (seen_there plan 0 passes from.logs from.are)

  pub all_owned : AllByRecursion (λ pass. (number : ℕ) → IsNumbered number pass → own_of pass ≡ entries_of (λ e. e.number) number log) passes
  all_owned =
      each (OwnsOf from.logs) (λ pass. (number : ℕ) → IsNumbered number pass → own_of pass ≡ entries_of (λ e. e.number) number log)
      (λ pass e owns number same. owns e number same ∙ ap (entries_of (λ (e : Posting). e.number) number) (sym from.joined))
      (owned_there plan 0 passes from.logs from.are)

  pub all_low : AllByRecursion (λ e. e.number < length passes) log
  all_low = subst (AllByRecursion (λ (e : Posting). e.number < length passes)) (sym from.joined) (entries_low plan 0 passes from.logs from.are)

  pub all_numbered : NumberedOnce number_of passes
  all_numbered =
      let some_log : 0 < length from.logs = let e = from.count in omega arith in
      first_numbered plan 0 passes from.logs some_log
      (each (λ pass. Unit) Some (λ pass e u. omega (arith, e, some_log)) (each_of (λ (pass : LevelPassSeen). Unit) (λ pass. tt) passes)) from.are
