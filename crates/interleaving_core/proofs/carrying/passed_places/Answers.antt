use Rattle.std.proofs.Common.{◌≡◌, ℕ, suc, ◌+◌, ◌<◌, Bool, true, false, List, sym, ◌∙◌, ap, ◌++◌, ◌∷◌, [], take, length, get_or, append-nil, arith}
use Rattle.std.specs.Prelude.{if◌then◌else◌}
use Rattle.definitions.specs.Sketch.{Sums}
use Rattle.walk_definitions.specs.Reports.{Report}
use Rattle.core_definitions.specs.System.{passes_by, passed_by}
use Rattle.half_events.specs.Stages.{StageSeen}
use Rattle.interleaving_core.proofs.Passing.{passed-more}
use Rattle.interleaving_core.proofs.carrying.passed_places.Goals as goal
use Rattle.interleaving_core.proofs.carrying.passed_places.Goals.{then-passes_at+in_ok-push, else-passes_at}

-- one report more is looked at
looked : (batch : List Report) (level k : ℕ) (live there : List ℕ) (ss ts : List Sums) (s t : Sums) (b : Bool) (old new : List ℕ) → there ≡ live → k < length there
    → length ss ≡ length live → length ts ≡ length live → s ≡ get_or ss k s → t ≡ get_or ts k t
    → old ≡ passed_by batch level (take k live) (take k ss) (take k ts) → b ≡ passes_by batch level (get_or there k 0) s t
    → new ≡ old ++ (if b then get_or there k 0 ∷ [] else [])
    → new ≡ passed_by batch level (take (k + 1) live) (take (k + 1) ss) (take (k + 1) ts)
looked batch level k live there ss ts s t b old new same low e f g h before test is =
    is ∙ ap (λ l. l ++ (if b then get_or there k 0 ∷ [] else [])) before
    ∙ ap (λ x. passed_by batch level (take k live) (take k ss) (take k ts) ++ (if x then get_or there k 0 ∷ [] else [])) test
    ∙ sym (passed-more batch level k live ss ts (get_or there k 0) s t (omega (arith, low, ap length same)) e f (ap (λ l. get_or l k 0) same) g h)

kept : {X : Type 0} (b : Bool) (x : X) (old new : List X) → b ≡ true → new ≡ old ++ x ∷ [] → new ≡ old ++ (if b then x ∷ [] else [])
kept b x old new e is = is ∙ ap (λ c. old ++ (if c then x ∷ [] else [])) (sym e)

left : {X : Type 0} (b : Bool) (x : X) (old new : List X) → b ≡ false → new ≡ old → new ≡ old ++ (if b then x ∷ [] else [])
left b x old new e is = is ∙ sym (append-nil old) ∙ ap (λ c. old ++ (if c then x ∷ [] else [])) (sym e)

pub loop-k-preserved : goal.loop-k-preserved
loop-k-preserved c =
    let s = c.args.stage.now in
    let there = c.stage.inside.live.now in
    let k = c.loop-k.k in
    let old = c.loop-k.still.items in
    let new = c.if-passes_at.still.items in
    let step : new ≡ old ++ (if c.passes_at.result then get_or there k 0 ∷ [] else []) = elim c.if-passes_at.branch [
      | then-passes_at+in_ok-push w ↦ kept c.passes_at.result (get_or there k 0) old new w.if-passes_at.true (ap (λ v. v.items) w.still-is ∙ w.in_ok-push.ensures.items)
      | else-passes_at w ↦ left c.passes_at.result (get_or there k 0) old new w.if-passes_at.false (ap (λ v. v.items) w.still-is)
    ] in
    looked s.batch (suc s.past) k s.live there c.args.zero.now c.args.one.now c.index-zero-k.result c.index-one-k.result c.passes_at.result old new
    (ap (λ (x : StageSeen). x.live) c.stage.view_is) c.loop-k-test.true c.requires.zero c.requires.one c.index-zero-k.is c.index-one-k.is c.loop-k.invariant
    c.passes_at.ensures step
