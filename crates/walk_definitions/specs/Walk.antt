-- The walk over a batch, level by level.
use Rattle.std.specs.Prelude.{ℕ, zero, suc, ◌-◌, ◌*◌, ◌==◌, Bool, true, false, if◌then◌else◌, List, [], ◌∷◌, ◌++◌, map, length, nat_le}
use Rattle.std.specs.List.{filter}
use Rattle.definitions.specs.declared.Side.{Side}
use Rattle.definitions.specs.declared.Side.TheVariants.{Zero, One}
use Rattle.definitions.specs.Field.{add, total_by}
use Rattle.definitions.specs.Evaluation.{node}
use Rattle.definitions.specs.Sketch.{Sums, coin}
use Rattle.definitions.specs.Check.{masked_sums, opened_sums, side_sigma, sigma_sum as sum_of_sigmas}
use Rattle.walk_definitions.specs.Reports.{Report, held}

-- what a walk is told: the strings' number of bits, the threshold, the most candidates, and the seed of the check's coins
pub record Settings : Type 0 where
  pub bits : ℕ
  pub threshold : ℕ
  pub cap : ℕ
  pub verify : List ℕ

-- a prefix and the number of those that begin with it
pub record Heavy : Type 0 where
  pub prefix : List Bool
  pub count : ℕ

-- ---- one level

-- a side's own sums of a report
abbrev pub own_sums : Settings → ℕ → List (List Bool) → Side → Report → Sums
own_sums settings level candidates side report = masked_sums (coin settings.verify report.id level) (held report side) side level candidates

-- a side's sigma of a report, of the opened sums
abbrev pub own_sigma : ℕ → Side → Report → Sums → ℕ
own_sigma level side report opened = side_sigma (held report side) side level opened

-- what both sides open of a report
abbrev pub opened : Settings → ℕ → List (List Bool) → Report → Sums
opened settings level candidates report =
    opened_sums (coin settings.verify report.id level) report.held0 report.held1 level candidates

-- what both sides' sigmas add up to
abbrev pub sigma_sum : Settings → ℕ → List (List Bool) → Report → ℕ
sigma_sum settings level candidates report =
    sum_of_sigmas (coin settings.verify report.id level) report.held0 report.held1 level candidates

-- the report passes the level
abbrev pub passes : Settings → ℕ → List (List Bool) → Report → Bool
passes settings level candidates report = sigma_sum settings level candidates report == 0

-- a side's total at a prefix
abbrev pub own_total : List Report → Side → List Bool → ℕ
own_total live side prefix = total_by (λ report. (node (held report side) side prefix).d) live

-- both sides' totals added
abbrev pub total : List Report → List Bool → ℕ
total live prefix = add (own_total live Zero prefix) (own_total live One prefix)

-- the candidates whose total is at least the threshold
abbrev pub survivors : ℕ → List (List Bool) → List ℕ → List Heavy
survivors threshold [] totals = []
survivors threshold (q ∷ qs) [] = []
survivors threshold (q ∷ qs) (n ∷ ns) =
    if nat_le threshold n then record { prefix = q; count = n } ∷ survivors threshold qs ns else survivors threshold qs ns

-- both children of each
abbrev pub children : List Heavy → List (List Bool)
children [] = []
children (h ∷ hs) = (h.prefix ++ false ∷ []) ∷ (h.prefix ++ true ∷ []) ∷ children hs

-- ---- all levels

-- the reports that passed each level so far, and the candidates of the next level
pub record Stage : Type 0 where
  pub live : List Report
  pub candidates : List (List Bool)

-- the candidates of level 1
abbrev pub first_candidates : List (List Bool)
first_candidates = (false ∷ []) ∷ (true ∷ []) ∷ []

-- the reports that pass a level, and the candidates that survive it
abbrev pub live_after : Settings → ℕ → Stage → List Report
live_after settings level stage = filter (passes settings level stage.candidates) stage.live

abbrev pub survivors_after : Settings → ℕ → Stage → List Heavy
survivors_after settings level stage =
    survivors settings.threshold stage.candidates (map (total (live_after settings level stage)) stage.candidates)

-- after so many levels
unfoldable pub stage_after : Settings → List Report → ℕ → Stage
stage_after settings batch zero = record { live = batch; candidates = first_candidates }
stage_after settings batch (suc level) =
    let stage = stage_after settings batch level in
    record {
      live = live_after settings (suc level) stage;
      candidates = children (survivors_after settings (suc level) stage);
    }

-- the reports that passed the first levels
abbrev pub live_at : Settings → List Report → ℕ → List Report
live_at settings batch level = (stage_after settings batch level).live

-- the survivors of a level, counted from 1
unfoldable pub survivors_at : Settings → List Report → ℕ → List Heavy
survivors_at settings batch zero = []
survivors_at settings batch (suc level) = survivors_after settings (suc level) (stage_after settings batch level)

-- ---- the end

pub data End : Type 0 where
  -- the levels walked, the reports that passed the last one, and the answer
  done : ℕ → ℕ → List Heavy → End
  -- the level, and twice the number of its survivors
  capped : ℕ → ℕ → End
  -- the level, the kind of message, and the first offset at fault
  peer_message : ℕ → ℕ → ℕ → End
  -- the level, the kind, the place, and the two sides' numbers
  views : ℕ → ℕ → ℕ → ℕ → ℕ → End

-- there are survivors, and their children are not too many
abbrev pub goes_on : ℕ → List Heavy → Bool
goes_on cap [] = false
goes_on cap (h ∷ hs) = nat_le (2 * length (h ∷ hs)) cap

-- the end at a level that does not go on: without survivors the answer is empty, else there are too many
abbrev pub stopped : ℕ → ℕ → List Heavy → End
stopped level passed [] = done level passed []
stopped level passed (h ∷ hs) = capped level (2 * length (h ∷ hs))

-- the end, from a level on with so many levels behind it: at the first level that does not go on, or at the last
unfoldable pub ending : ℕ → (ℕ → List Heavy) → (ℕ → ℕ) → ℕ → ℕ → End
ending cap heavy passed zero level = done level (passed level) (heavy level)
ending cap heavy passed (suc more) level =
    if goes_on cap (heavy level) then ending cap heavy passed more (suc level) else stopped level (passed level) (heavy level)

-- the walk's answer or cap
abbrev pub walk : Settings → List Report → End
walk settings batch =
    ending settings.cap (survivors_at settings batch) (λ level. length (live_at settings batch level)) (settings.bits - 1) 1
