-- A walk between two phases.
use Rattle.std.specs.Prelude.{◌≡◌, ◌-◌, List, [], length}
use Rattle.walk_definitions.specs.Reports.{Report}
use Rattle.walk_definitions.specs.Walk.{first_candidates}
use Rattle.core_definitions.specs.Phase as phase
use Rattle.core_definitions.specs.Phase.{CoreSettings, CacheEntry}
use Rattle.core_definitions.specs.System.{Walking, begun, places}
use Rattle.half_events.specs.Stages.{StageSeen, kind_of}
use Rattle.interleaving_core.specs.declared.walks.Walked.{Walked}

abbrev pub stage_of : Walked → StageSeen
stage_of w = record {
  batch = w.batch;
  past = w.frontier.level - 1;
  kind = kind_of w.kind;
  live = w.live.items;
  candidates = w.frontier.candidates;
  recorded = w.totals.items;
}

-- the walk over a batch before level 1
pub record IsFirst (core : CoreSettings) (batch : List Report) (w : Walked) : Type 0 where
  pub stage_is : stage_of w ≡ record { batch = batch; past = 0; kind = phase.sketching; live = places 0 (length batch); candidates = first_candidates; recorded = [] }
  pub level_is : w.frontier.level ≡ 1
  pub bits_are : w.frontier.bits ≡ core.walk.bits
  pub cap_is : w.frontier.cap ≡ core.walk.cap

-- the definitions' walk at the beginning of a phase
abbrev pub begun_at : CoreSettings → StageSeen → List CacheEntry → List CacheEntry → Walking
begun_at core s cache0 cache1 = begun core s.batch s.past s.kind s.live s.candidates cache0 cache1 s.recorded
