-- What a level does for the loop over levels.
use Rattle.std.proofs.Common.{◌≡◌, ℕ, suc, ◌+◌, ◌-◌, ◌≤◌, Bool, true, List, [], ◌∷◌, length, refl, sym, ◌∙◌, ap, arith, replicate}
use Rattle.std.specs.Prelude.{map}
use Rattle.walk_definitions.specs.Reports.{Report}
use Rattle.walk_definitions.specs.Walk.{Settings, Heavy, done, capped, first_candidates, total, children, live_after, survivors_after, stage_after, live_at, survivors_at, walk}
use Rattle.walk_definitions.proofs.Steps.{stage-more, survivors_at-more}
use Rattle.frontier_walk.specs.Frontiers.{Frontier, first_frontier}
use Rattle.frontier_walk.specs.Outcomes.{Outcome, further, answered, too_many}
use Rattle.frontier_walk.proofs.Endings.{ending_at, ending_after, pruned-ends, further-follows}
use Rattle.plain_walk.specs.Chosen.{chosen}
use Rattle.plain_walk.specs.Levels.{stage_of, live_next, outcome_at, IsCappedBy, IsEndedBy}
use Rattle.frontier_walk.specs.declared.outcomes.PruneError.{PruneError}
use Rattle.frontier_walk.specs.declared.outcomes.PruneError.TheVariants.{Cap, Memory}

module _ (settings : Settings) (batch : List Report) where
  abbrev passed : ℕ → ℕ
  passed level = length (live_at settings batch level)

  -- the levels before the frontier's leave these reports live and its candidates, and the walk ends as from here on
  pub record HasWalked (live : List Report) (frontier : Frontier) : Type 0 where
    pub bits : frontier.bits ≡ settings.bits
    pub cap : frontier.cap ≡ settings.cap
    pub begun : 1 ≤ frontier.level
    pub within : frontier.level ≤ frontier.bits
    pub stage : stage_of live frontier.candidates ≡ stage_after settings batch (frontier.level - 1)
    pub goes : ending_at (survivors_at settings batch) passed frontier ≡ walk settings batch

  module _ (live : List Report) (frontier : Frontier) (has : HasWalked live frontier) where
    level_is : frontier.level ≡ suc (frontier.level - 1)
    level_is = omega (arith, has.begun)

    stage_is : stage_after settings batch frontier.level ≡ record {
      live = live_next settings live frontier;
      candidates = children (survivors_after settings frontier.level (stage_of live frontier.candidates));
    }
    stage_is =
        ap (stage_after settings batch) level_is ∙ stage-more settings batch (frontier.level - 1)
        ∙ ap (λ s. record {
          live = live_after settings (suc (frontier.level - 1)) s;
          candidates = children (survivors_after settings (suc (frontier.level - 1)) s);
        }) (sym has.stage)
        ∙ ap (λ l. record {
          live = live_after settings l (stage_of live frontier.candidates);
          candidates = children (survivors_after settings l (stage_of live frontier.candidates));
        }) (sym level_is)

    survive : survivors_at settings batch frontier.level ≡ survivors_after settings frontier.level (stage_of live frontier.candidates)
    survive =
        ap (survivors_at settings batch) level_is ∙ survivors_at-more settings batch (frontier.level - 1)
        ∙ ap (survivors_after settings (suc (frontier.level - 1))) (sym has.stage)
        ∙ ap (λ l. survivors_after settings l (stage_of live frontier.candidates)) (sym level_is)

    ends : (outcome : Outcome) → outcome ≡ outcome_at settings live frontier
        → ending_after (survivors_at settings batch) passed frontier.level outcome ≡ walk settings batch
    ends outcome e =
        ap (ending_after (survivors_at settings batch) passed frontier.level) e
        ∙ sym (pruned-ends (survivors_at settings batch) passed frontier has.within
        (map (total (live_next settings live frontier)) frontier.candidates) settings.threshold survive)
        ∙ has.goes

    pub answer_is : (found : List Heavy) (after : List Report) (n : ℕ) → answered found ≡ outcome_at settings live frontier
        → after ≡ live_next settings live frontier → n ≡ length after → walk settings batch ≡ done frontier.level n found
    answer_is found after n e same counted =
        sym (ends (answered found) e)
        ∙ ap (λ k. done frontier.level k found) (ap (λ s. length s.live) stage_is ∙ sym (counted ∙ ap length same))

    cap_is : (level wanted : ℕ) → outcome_at settings live frontier ≡ too_many level wanted → walk settings batch ≡ capped level wanted
    cap_is level wanted e = sym (ends (too_many level wanted) (sym e))

    pub ended-by : (e : PruneError) → IsCappedBy (outcome_at settings live frontier) e → IsEndedBy (walk settings batch) e
    ended-by (Cap level wanted) is = cap_is level wanted is
    ended-by Memory is = tt

    pub next_has : (next : Frontier) (after : List Report) → further next ≡ outcome_at settings live frontier
        → after ≡ live_next settings live frontier → HasWalked after next
    next_has next after e same =
        let follows = further-follows frontier next (map (total (live_next settings live frontier)) frontier.candidates) settings.threshold e in
        let level : next.level ≡ frontier.level + 1 = ap (λ f. f.level) follows.1 in
        let bits : next.bits ≡ frontier.bits = ap (λ f. f.bits) follows.1 in
        let before : next.level - 1 ≡ frontier.level = omega arith in
        record {
          bits = bits ∙ has.bits;
          cap = ap (λ f. f.cap) follows.1 ∙ has.cap;
          begun = omega arith;
          within = omega (arith, has.within, follows.0);
          stage =
              ap (λ rs. stage_of rs next.candidates) same ∙ ap (stage_of (live_next settings live frontier)) (ap (λ f. f.candidates) follows.1)
              ∙ sym (ap (stage_after settings batch) before ∙ stage_is);
          goes = ends (further next) e;
        }

  -- ---- the start

  chosen-all : (rs : List Report) → chosen (replicate (length rs) true) rs ≡ rs
  chosen-all [] = refl
  chosen-all (r ∷ rs) = ap (λ t. r ∷ t) (chosen-all rs)

  start : stage_of batch first_candidates ≡ stage_after settings batch 0
  unfolding stage_after
  start = refl

  pub begins : (alive : List Bool) (frontier : Frontier) → 1 ≤ settings.bits → alive ≡ replicate (length batch) true
      → frontier ≡ first_frontier settings.bits settings.cap → HasWalked (chosen alive batch) frontier
  begins alive frontier some e f =
      let level : frontier.level ≡ 1 = ap (λ f. f.level) f in
      let bits : frontier.bits ≡ settings.bits = ap (λ f. f.bits) f in
      let before : frontier.level - 1 ≡ 0 = omega arith in
      record {
        bits = bits;
        cap = ap (λ f. f.cap) f;
        begun = omega arith;
        within = omega arith;
        stage =
            ap (λ bs. stage_of (chosen bs batch) frontier.candidates) e ∙ ap (λ rs. stage_of rs frontier.candidates) (chosen-all batch)
            ∙ ap (stage_of batch) (ap (λ f. f.candidates) f) ∙ start ∙ sym (ap (stage_after settings batch) before);
        goes = ap (ending_at (survivors_at settings batch) passed) f;
      }
