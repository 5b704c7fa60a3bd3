-- One post at the lock of a stripe.
use Rattle.std.proofs.Common.{◌≡◌, ◌≢◌, ℕ, zero, suc, List, [], ◌∷◌, ◌++◌, length, map, drop, get_or, refl, ap, sym, ◌∙◌, subst, arith}
use Rattle.std.proofs.lemmas.List.{append-nil}
use mathlib.Core.List.{IsPrefix}
use Rattle.turn_lock.specs.Logs.{GrewBy}
use Rattle.turn_lock.specs.Seen.{PassSeen, TurnSeen, turn_of, pass_after}
use Rattle.lock_row.specs.Rows.{RowTurnSeen, Takes}
use Rattle.core_definitions.specs.Phase.{Posting}
use Rattle.phase_state.specs.declared.posting.Posted.{Posted}
use Rattle.phase_state.specs.declared.posting.Posted.TheVariants.{Added, Repeat}
use Rattle.phase_state.specs.Logs.{posting, IsPosted}
use Rattle.level_totals.specs.declared.held_phase.StripePlan.{StripePlan}
use Rattle.level_totals.specs.Levels.{LevelPassSeen, numbers_of, number_in, seen_in, own_in, SawPost, OwnsPost, SameElsewhere, IsOwned}

abbrev by_number : Posting → ℕ
by_number e = e.number

more_of : (r : Posted) (number k : ℕ) (old new : List Posting) → IsPosted r number k old new → GrewBy by_number number old new
more_of Added number k old new h = (posting number k ∷ [], h.1, (refl, tt))
more_of Repeat number k old new h = ([], h.1 ∙ sym (append-nil old), tt)

drop_seam : (xs ys : List Posting) → drop (length xs) (xs ++ ys) ≡ ys
drop_seam [] ys = refl
drop_seam (x ∷ xs) ys = drop_seam xs ys

owned_of : (r : Posted) (number k : ℕ) (old new own : List Posting) → IsPosted r number k old new → IsOwned r number k own (own ++ drop (length old) new)
owned_of Added number k old new own h = ap (λ l. own ++ l) (ap (drop (length old)) h.1 ∙ drop_seam old (posting number k ∷ []))
owned_of Repeat number k old new own h = ap (λ l. own ++ l) (ap (drop (length old)) (h.1 ∙ sym (append-nil old)) ∙ drop_seam old []) ∙ append-nil own

-- the log grew by postings of the pass alone
pub has_grown : (answer : Posted) (tile n stripe : ℕ) (pass : LevelPassSeen) (log now : List Posting) (t : RowTurnSeen StripePlan Posting) → Takes by_number stripe pass log t → n ≡ t.turn.number
    → IsPosted answer n tile log now → GrewBy by_number t.turn.number t.turn.taken now
has_grown answer tile n stripe pass log now t takes number posted =
    subst (λ l. GrewBy by_number t.turn.number l now) (sym (ap (λ (u : TurnSeen StripePlan Posting). u.taken) takes.turn))
    (subst (λ m. GrewBy by_number m log now) number (more_of answer n tile log now posted))

-- ---- lists that differ at one place

module _ {X Y : Type 0} (f : X → Y) where
  at_seam : (d : Y) (before : List X) (x : X) (after : List X) → get_or (map f (before ++ x ∷ after)) (length before) d ≡ f x
  at_seam d [] x after = refl
  at_seam d (b ∷ bs) x after = at_seam d bs x after

  beside : (d : Y) (before : List X) (x y : X) (after : List X) (place : ℕ) → place ≢ length before → get_or (map f (before ++ x ∷ after)) place d ≡ get_or (map f (before ++ y ∷ after)) place d
  beside d [] x y after zero other = absurd (other refl)
  beside d [] x y after (suc place) other = refl
  beside d (b ∷ bs) x y after zero other = refl
  beside d (b ∷ bs) x y after (suc place) other = beside d bs x y after place (λ e. other (ap suc e))

  same_images : (before : List X) (x y : X) (after : List X) → f x ≡ f y → map f (before ++ x ∷ after) ≡ map f (before ++ y ∷ after)
  same_images [] x y after e = ap (λ z. z ∷ map f after) e
  same_images (b ∷ bs) x y after e = ap (λ l. f b ∷ l) (same_images bs x y after e)

-- ---- the pass before and after the post

module _ (answer : Posted) (tile n stripe : ℕ) (pass new : LevelPassSeen) (log now : List Posting) (t : RowTurnSeen StripePlan Posting) (takes : Takes by_number stripe pass log t)
    (is : new ≡ t.before ++ pass_after t.turn now ∷ t.after) (number : n ≡ t.turn.number) (posted : IsPosted answer n tile log now) where
  after : PassSeen StripePlan Posting
  after = pass_after (turn_of takes.one log) now

  becomes : new ≡ t.before ++ pass_after (turn_of takes.one log) now ∷ t.after
  becomes = is ∙ ap (λ (u : TurnSeen StripePlan Posting). t.before ++ pass_after u now ∷ t.after) takes.turn

  was_at : {Y : Type 0} (f : PassSeen StripePlan Posting → Y) (d : Y) → get_or (map f pass) stripe d ≡ f takes.one
  was_at f d =
      ap (λ (p : LevelPassSeen). get_or (map f p) stripe d) takes.cut
      ∙ ap (λ k. get_or (map f (t.before ++ takes.one ∷ t.after)) k d) (sym takes.at) ∙ at_seam f d t.before takes.one t.after

  is_at : {Y : Type 0} (f : PassSeen StripePlan Posting → Y) (d : Y) → get_or (map f new) stripe d ≡ f (pass_after (turn_of takes.one log) now)
  is_at f d =
      ap (λ (p : LevelPassSeen). get_or (map f p) stripe d) becomes
      ∙ ap (λ k. get_or (map f (t.before ++ pass_after (turn_of takes.one log) now ∷ t.after)) k d) (sym takes.at)
      ∙ at_seam f d t.before (pass_after (turn_of takes.one log) now) t.after

  elsewhere : {Y : Type 0} (f : PassSeen StripePlan Posting → Y) (d : Y) (other : ℕ) → other ≢ stripe → get_or (map f new) other d ≡ get_or (map f pass) other d
  elsewhere f d other ne =
      ap (λ (p : LevelPassSeen). get_or (map f p) other d) becomes
      ∙ beside f d t.before (pass_after (turn_of takes.one log) now) takes.one t.after other (λ e. ne (e ∙ takes.at))
      ∙ sym (ap (λ (p : LevelPassSeen). get_or (map f p) other d) takes.cut)

  number_is : n ≡ number_in stripe pass
  number_is = number ∙ ap (λ (u : TurnSeen StripePlan Posting). u.number) takes.turn ∙ sym (was_at (λ p. p.number) 0)

  here : IsPosted answer (number_in stripe pass) tile log now
  here = subst (λ m. IsPosted answer m tile log now) number_is posted

  pub numbers_stay : numbers_of new ≡ numbers_of pass
  numbers_stay =
      ap numbers_of becomes ∙ same_images (λ (p : PassSeen StripePlan Posting). p.number) t.before (pass_after (turn_of takes.one log) now) takes.one t.after refl ∙ sym (ap numbers_of takes.cut)

  pub has_seen : SawPost answer stripe tile pass new
  has_seen = (
    log,
    subst (λ l. IsPrefix l log) (sym (was_at (λ p. p.seen) [])) takes.seen,
    subst (IsPosted answer (number_in stripe pass) tile log) (sym (is_at (λ p. p.seen) [])) here,
  )

  pub is_owned : OwnsPost answer stripe tile pass new
  is_owned =
      subst (λ l. IsOwned answer (number_in stripe pass) tile l (own_in stripe new)) (sym (was_at (λ p. p.own) []))
      (subst (IsOwned answer (number_in stripe pass) tile takes.one.own) (sym (is_at (λ p. p.own) []))
      (owned_of answer (number_in stripe pass) tile log now takes.one.own here))

  pub others_stay : SameElsewhere stripe pass new
  others_stay other ne = (elsewhere (λ p. p.seen) [] other ne, elsewhere (λ p. p.own) [] other ne)
