-- A batch as three lists.
use Rattle.std.specs.Prelude.{◌≡◌, ℕ, List, [], ◌∷◌, map}
use Rattle.definitions.specs.Evaluation.{Share}
use Rattle.walk_definitions.specs.Reports.{Report}
use Rattle.walk_definitions.specs.Laws.{IdsAscend}

-- the reports whose ids and shares stand at the same places of three lists
abbrev pub reports_of : List (List ℕ) → List Share → List Share → List Report
reports_of [] zero one = []
reports_of (id ∷ ids) [] one = []
reports_of (id ∷ ids) (s ∷ zero) [] = []
reports_of (id ∷ ids) (s ∷ zero) (t ∷ one) = record { id = id; held0 = s; held1 = t } ∷ reports_of ids zero one

-- what is true of the three lists of a batch: both sides' shares have the ids, place by place, and the ids ascend
pub record IsBatch (ids : List (List ℕ)) (zero one : List Share) : Type 0 where
  pub named0 : map (λ s. s.id) zero ≡ ids
  pub named1 : map (λ s. s.id) one ≡ ids
  pub ascend : IdsAscend (reports_of ids zero one)
