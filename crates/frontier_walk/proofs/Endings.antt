-- The end of the walk from a frontier's level on is what follows its outcome.
use Rattle.std.proofs.Common.{◌≡◌, ◌≢◌, ℕ, suc, ◌+◌, ◌-◌, ◌*◌, ◌≤◌, ◌==◌, Bool, true, false, List, [], ◌∷◌, length, refl, sym, ◌∙◌, ap, add-one, arith}
use Rattle.std.proofs.Common.{inl, inr}
use Rattle.std.proofs.lemmas.Bool.{eqb-false}
use Rattle.std.proofs.lemmas.Bool.Decides.{eqb_tells}
use Rattle.std.specs.Prelude.{if◌then◌else◌, nat_le}
use Rattle.walk_definitions.specs.Walk.{Heavy, End, done, capped, survivors, goes_on, stopped, ending}
use Rattle.walk_definitions.proofs.Steps.{ending-last, ending-more}
use Rattle.frontier_walk.specs.Frontiers.{Frontier}
use Rattle.frontier_walk.specs.Outcomes.{Outcome, further, answered, too_many, following, halted, pruned}

-- from the frontier's level on
abbrev pub ending_at : (ℕ → List Heavy) → (ℕ → ℕ) → Frontier → End
ending_at heavy passed frontier = ending frontier.cap heavy passed (frontier.bits - frontier.level) frontier.level

-- from what follows the level on
abbrev pub ending_after : (ℕ → List Heavy) → (ℕ → ℕ) → ℕ → Outcome → End
ending_after heavy passed level (further next) = ending_at heavy passed next
ending_after heavy passed level (answered found) = done level (passed level) found
ending_after heavy passed level (too_many at wanted) = capped at wanted

module _ (heavy : ℕ → List Heavy) (passed : ℕ → ℕ) (frontier : Frontier) (within : frontier.level ≤ frontier.bits) where
  abbrev after : Outcome → End
  after outcome = ending_after heavy passed frontier.level outcome

  last : frontier.level ≡ frontier.bits → (found : List Heavy) → heavy frontier.level ≡ found
      → ending_at heavy passed frontier ≡ done frontier.level (passed frontier.level) found
  last e found is =
      let none : frontier.bits - frontier.level ≡ 0 = omega arith in
      ap (λ more. ending frontier.cap heavy passed more frontier.level) none ∙ ending-last frontier.cap heavy passed frontier.level
      ∙ ap (done frontier.level (passed frontier.level)) is

  before : (more : ℕ) → frontier.bits - frontier.level ≡ suc more → (found : List Heavy) → heavy frontier.level ≡ found
      → ending_at heavy passed frontier ≡ after (if goes_on frontier.cap found then further (following frontier found) else halted frontier found)
  before more e found is =
      ap (λ more. ending frontier.cap heavy passed more frontier.level) e ∙ ending-more frontier.cap heavy passed more frontier.level
      ∙ ap (λ found. if goes_on frontier.cap found then ending frontier.cap heavy passed more (suc frontier.level) else stopped frontier.level (passed frontier.level) found) is
      ∙ at found
    where
      left : more ≡ frontier.bits - (frontier.level + 1)
      left = omega arith

      next : (found : List Heavy) → ending frontier.cap heavy passed more (suc frontier.level) ≡ after (further (following frontier found))
      next found =
          ap (λ more. ending frontier.cap heavy passed more (suc frontier.level)) left
          ∙ ap (ending frontier.cap heavy passed (frontier.bits - (frontier.level + 1))) (sym (add-one frontier.level))

      choose : (b : Bool) (x : End) (found : List Heavy) → x ≡ after (halted frontier found)
          → (if b then ending frontier.cap heavy passed more (suc frontier.level) else x)
          ≡ after (if b then further (following frontier found) else halted frontier found)
      choose true x found same = next found
      choose false x found same = same

      at : (found : List Heavy) → (if goes_on frontier.cap found then ending frontier.cap heavy passed more (suc frontier.level) else stopped frontier.level (passed frontier.level) found)
          ≡ after (if goes_on frontier.cap found then further (following frontier found) else halted frontier found)
      at [] = refl
      at (h ∷ hs) = choose (nat_le (2 * length (h ∷ hs)) frontier.cap) (capped frontier.level (2 * length (h ∷ hs))) (h ∷ hs) refl

  pub pruned-ends : (totals : List ℕ) (threshold : ℕ) → heavy frontier.level ≡ survivors threshold frontier.candidates totals
      → ending_at heavy passed frontier ≡ after (pruned frontier totals threshold)
  pruned-ends totals threshold is =
      let found = survivors threshold frontier.candidates totals in
      let rest = if goes_on frontier.cap found then further (following frontier found) else halted frontier found in
      elim (eqb_tells frontier.level frontier.bits) [
        | inl h ↦
            last h.1 found is ∙ sym (ap (λ b. after (if b then answered found else rest)) h.0)
        | inr h ↦
            before (frontier.bits - (frontier.level + 1)) (omega (arith, h.1)) found is ∙ sym (ap (λ b. after (if b then answered found else rest)) h.0)
      ]

-- where another level follows, this one was not the last, and the survivors' children are its candidates
pub further-follows : (frontier next : Frontier) (totals : List ℕ) (threshold : ℕ) → further next ≡ pruned frontier totals threshold
    → (frontier.level ≢ frontier.bits) × (next ≡ following frontier (survivors threshold frontier.candidates totals))
further-follows frontier next totals threshold e = at (frontier.level == frontier.bits) (eqb-false frontier.level frontier.bits) (survivors threshold frontier.candidates totals) e
  where
    choose : (b : Bool) (found : List Heavy) → further next ≡ (if b then further (following frontier found) else halted frontier found)
        → next ≡ following frontier found
    choose true found e = cc
    choose false [] e = cc
    choose false (h ∷ hs) e = cc

    at : (b : Bool) → (b ≡ false → frontier.level ≢ frontier.bits) → (found : List Heavy)
        → further next ≡ (if b then answered found else if goes_on frontier.cap found then further (following frontier found) else halted frontier found)
        → (frontier.level ≢ frontier.bits) × (next ≡ following frontier found)
    at true other found e = cc
    at false other found e = (other refl, choose (goes_on frontier.cap found) found e)
