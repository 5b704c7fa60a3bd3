-- The check of a report at a level, over a list of candidates.
use Rattle.std.specs.Prelude.{◌≡◌, ℕ, Bool, List, map}
use Rattle.definitions.specs.declared.Side.{Side}
use Rattle.definitions.specs.declared.Side.TheVariants.{Zero, One}
use Rattle.definitions.specs.Field.{add}
use Rattle.definitions.specs.Sides.{side_number}
use Rattle.definitions.specs.Evaluation.{Share, node, level_word}
use Rattle.definitions.specs.Sketch.{Sums, correlation, partial_sums, sums_added, masked, sigma}

-- a side's values at the candidates
abbrev pub values_d : Share → Side → List (List Bool) → List ℕ
values_d share side candidates = map (λ q. (node share side q).d) candidates

abbrev pub values_e : Share → Side → List (List Bool) → List ℕ
values_e share side candidates = map (λ q. (node share side q).e) candidates

-- what a side sends: its sums over the candidates, hidden by its part of the correlation
abbrev pub masked_sums : (ℕ → ℕ) → Share → Side → ℕ → List (List Bool) → Sums
masked_sums coin share side level candidates =
    masked (partial_sums coin (values_d share side candidates) (values_e share side candidates)) (correlation share.corr level)

-- what both sides open
abbrev pub opened_sums : (ℕ → ℕ) → Share → Share → ℕ → List (List Bool) → Sums
opened_sums coin share0 share1 level candidates =
    sums_added (masked_sums coin share0 Zero level candidates) (masked_sums coin share1 One level candidates)

-- a side's sigma of the opened sums
abbrev pub side_sigma : Share → Side → ℕ → Sums → ℕ
side_sigma share side level opened = sigma (side_number side) (level_word share level).a (level_word share level).b opened

-- what the two sigmas add up to
abbrev pub sigma_sum : (ℕ → ℕ) → Share → Share → ℕ → List (List Bool) → ℕ
sigma_sum coin share0 share1 level candidates =
    let opened = opened_sums coin share0 share1 level candidates in
    add (side_sigma share0 Zero level opened) (side_sigma share1 One level opened)

-- the report passes the level
abbrev pub Passes : (ℕ → ℕ) → Share → Share → ℕ → List (List Bool) → Type 0
Passes coin share0 share1 level candidates = sigma_sum coin share0 share1 level candidates ≡ 0
