use Rattle.std.proofs.Common.{◌≡◌, ℕ, suc, ◌+◌, ◌<◌, ◌≤◌, List, length, get_or, map, ◌∙◌, ap, arith}
use Rattle.std.specs.List.{All}
use Rattle.std.proofs.lemmas.List.{length-map}
use Rattle.definitions.specs.declared.Side.{Side}
use Rattle.definitions.specs.declared.Side.TheVariants.{Zero, One}
use Rattle.definitions.specs.Evaluation.{Share}
use Rattle.walk_definitions.specs.Reports.{Report, held}
use Rattle.interleaving_core.proofs.carrying.passes_at.Goals as goal

-- the share at a report's place reaches the level
reach : (side : Side) (batch : List Report) (past n : ℕ) (shares : List Share) (i : ℕ) (x : Share)
    → All (λ s. suc past ≤ length s.levels) (map (λ r. held r side) batch) → shares ≡ map (λ r. held r side) batch → i < length batch
    → x ≡ get_or shares i x → n ≡ past → n + 1 ≤ length x.levels
reach side batch past n shares i x h e p is same =
    let there = h i x (omega (arith, p, length-map batch (λ (r : Report). held r side))) in
    let read = ap (λ (s : Share). length s.levels) (is ∙ ap (λ l. get_or l i x) e) in
    omega (arith, there, read, same)

pub sigma_of-requires-clause-last : goal.sigma_of-requires-clause-last
sigma_of-requires-clause-last c =
    reach Zero c.args.stage.now.batch c.args.stage.now.past c.stage.inside.past c.shares.result.now c.args.place c.index-shares-place.result c.requires.levels0
    (c.shares.ensures.shares ∙ ap (λ (s : _). map (λ r. held r Zero) s.batch) c.stage.view_is) c.requires.place c.index-shares-place.is (ap (λ s. s.past) c.stage.view_is)

pub sigma_of-requires-2-clause-last : goal.sigma_of-requires-2-clause-last
sigma_of-requires-2-clause-last c =
    reach One c.args.stage.now.batch c.args.stage.now.past c.stage.inside.past c.shares-2.result.now c.args.place c.index-shares-place-2.result c.requires.levels1
    (c.shares-2.ensures.shares ∙ ap (λ (s : _). map (λ r. held r One) s.batch) c.stage.view_is) c.requires.place c.index-shares-place-2.is (ap (λ s. s.past) c.stage.view_is)
