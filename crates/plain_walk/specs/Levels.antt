-- A level of the walk by its frontier and the reports that are live before it, and what a refusal says of the walk.
use Rattle.std.specs.Prelude.{◌≡◌, Bool, List, map}
use Rattle.walk_definitions.specs.Reports.{Report}
use Rattle.walk_definitions.specs.Walk.{Settings, Stage, End, capped, total, live_after}
use Rattle.frontier_walk.specs.Frontiers.{Frontier}
use Rattle.frontier_walk.specs.Outcomes.{Outcome, too_many, pruned}
use Rattle.frontier_walk.specs.declared.outcomes.PruneError.{PruneError}
use Rattle.frontier_walk.specs.declared.outcomes.PruneError.TheVariants.{Cap, Memory}

abbrev pub stage_of : List Report → List (List Bool) → Stage
stage_of live candidates = record { live = live; candidates = candidates }

-- the reports that pass the frontier's level
abbrev pub live_next : Settings → List Report → Frontier → List Report
live_next settings live frontier = live_after settings frontier.level (stage_of live frontier.candidates)

-- what follows the frontier's level
abbrev pub outcome_at : Settings → List Report → Frontier → Outcome
outcome_at settings live frontier =
    pruned frontier (map (total (live_next settings live frontier)) frontier.candidates) settings.threshold

-- a refusal by the cap is what follows
abbrev pub IsCappedBy : Outcome → PruneError → Type 0
IsCappedBy outcome (Cap level wanted) = outcome ≡ too_many level wanted
IsCappedBy outcome Memory = Unit {0}

-- a refusal by the cap is the walk's end
abbrev pub IsEndedBy : End → PruneError → Type 0
IsEndedBy end (Cap level wanted) = end ≡ capped level wanted
IsEndedBy end Memory = Unit {0}
