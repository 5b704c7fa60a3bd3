-- What one post leaves of all stripes of a pass together.
use Rattle.std.proofs.Common.{◌≡◌, ◌≢◌, ℕ, zero, suc, ◌<◌, ◌≤◌, Bool, false, List, [], ◌∷◌, ap, sym, subst, arith}
use mathlib.Core.Logic.{dite}
use native.Mathlib.Decide.{ℕ_discrete}
use Rattle.std.specs.List.{AllByRecursion}
use Rattle.core_definitions.specs.Phase.{Posting}
use Rattle.phase_state.specs.declared.posting.Posted.{Posted}
use Rattle.phase_state.specs.Logs.{posts}
use Rattle.phase_state.proofs.Marks.{posts_append}
use Rattle.level_totals.specs.Levels.{LevelPassSeen, number_in, seen_in, own_in, seen_of, own_of, SawPost, OwnsPost, SameElsewhere, Has}
use Rattle.phase_workers.proofs.Lists.{both_all, front_all, rest_all}
use Rattle.phase_workers.proofs.Steps.{has_of, there_of, kept_of}

-- ---- by stripes, and of all

has_each : (pass new : LevelPassSeen) → ((stripe : ℕ) → Has (seen_in stripe pass) (seen_in stripe new)) → Has (seen_of pass) (seen_of new)
has_each [] new h k = omega arith
has_each (p ∷ ps) [] h k = omega (arith, posts_append k p.seen (seen_of ps), h 0 k, has_each ps [] (λ s. h (suc s)) k)
has_each (p ∷ ps) (n ∷ ns) h k =
    omega (arith, posts_append k p.seen (seen_of ps), posts_append k n.seen (seen_of ns), h 0 k, has_each ps ns (λ s. h (suc s)) k)

in_all : (stripe : ℕ) (pass : LevelPassSeen) → Has (seen_in stripe pass) (seen_of pass)
in_all stripe [] k = omega arith
in_all zero (p ∷ ps) k = omega (arith, posts_append k p.seen (seen_of ps))
in_all (suc stripe) (p ∷ ps) k = omega (arith, posts_append k p.seen (seen_of ps), in_all stripe ps k)

module _ (Q : Posting → Type 0) where
  own_each : (pass : LevelPassSeen) → ((stripe : ℕ) → AllByRecursion Q (own_in stripe pass)) → AllByRecursion Q (own_of pass)
  own_each [] h = tt
  own_each (p ∷ ps) h = both_all Q p.own (own_of ps) (h 0) (own_each ps (λ s. h (suc s)))

  own_stripe : (pass : LevelPassSeen) → AllByRecursion Q (own_of pass) → (stripe : ℕ) → AllByRecursion Q (own_in stripe pass)
  own_stripe [] h stripe = tt
  own_stripe (p ∷ ps) h zero = front_all Q p.own (own_of ps) h
  own_stripe (p ∷ ps) h (suc stripe) = own_stripe ps (rest_all Q p.own (own_of ps) h) stripe

-- ---- after a post

module _ (answer : Posted) (stripe tile : ℕ) (pass new : LevelPassSeen) where
  pub saw_more : SawPost answer stripe tile pass new → SameElsewhere stripe pass new → Has (seen_of pass) (seen_of new)
  saw_more saw others =
      has_each pass new (λ s. dite (ℕ_discrete s stripe)
      (λ same. subst (λ j. Has (seen_in j pass) (seen_in j new)) (sym same) (has_of answer (number_in stripe pass) tile (seen_in stripe pass) saw.0 (seen_in stripe new) saw.1 saw.2))
      (λ ne k. omega (arith, ap (posts k) (others s ne).0)))

  pub saw_tile : SawPost answer stripe tile pass new → 0 < posts tile (seen_of new)
  saw_tile saw = omega (arith, there_of answer (number_in stripe pass) tile saw.0 (seen_in stripe new) saw.2, in_all stripe new tile)

  pub kept_all : OwnsPost answer stripe tile pass new → SameElsewhere stripe pass new → (rule : ℕ → Bool) → rule tile ≡ false
      → AllByRecursion (λ e. rule e.tile ≡ false) (own_of pass) → AllByRecursion (λ e. rule e.tile ≡ false) (own_of new)
  kept_all own others rule f all =
      own_each (λ e. rule e.tile ≡ false) new (λ s. dite (ℕ_discrete s stripe)
      (λ same. subst (λ j. AllByRecursion (λ (e : Posting). rule e.tile ≡ false) (own_in j new)) (sym same)
      (kept_of answer (number_in stripe pass) tile (own_in stripe pass) (own_in stripe new) own rule f (own_stripe (λ e. rule e.tile ≡ false) pass all stripe)))
      (λ ne. subst (AllByRecursion (λ (e : Posting). rule e.tile ≡ false)) (sym (others s ne).1) (own_stripe (λ e. rule e.tile ≡ false) pass all s)))
