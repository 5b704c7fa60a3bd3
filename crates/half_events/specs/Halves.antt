-- One side of a phase, as the program keeps it.
use Rattle.std.specs.Prelude.{◌≡◌, ℕ, if◌then◌else◌, List, [], ◌∷◌, ◌++◌, Option, Some, None, map, nat_eq, slice_set}
use Rattle.std.specs.List.{list_all}
use Rattle.definitions.specs.declared.Side.{Side}
use Rattle.core_definitions.specs.declared.hand.Hand.{Hand}
use Rattle.core_definitions.specs.declared.hand.Hand.TheVariants.{Free, Holding, Finished}
use Rattle.core_definitions.specs.Phase as phase
use Rattle.core_definitions.specs.Phase.{CoreSettings, Phase, CacheEntry, Posting, HalfKept, values_of_tiles, plain_node}
use Rattle.core_definitions.specs.Phase.{posted_count, unposted, hand_at, is_finished}
use Rattle.phase_state.specs.declared.phase_plan.PlanSeen.{PlanSeen}
use Rattle.half_events.specs.declared.halves.Half.{Half}
use Rattle.half_events.specs.Stages.{IsPlanOf}

-- the definitions' side: what is added up is read off the log
abbrev pub half_seen : CoreSettings → Phase → Side → Half → phase.Half
half_seen core p side h = record {
  counter = h.counter;
  hands = h.hands.items;
  log = h.state.log;
  cache = h.cache.items;
  values = values_of_tiles core p p.kind (plain_node p.batch side) (map (λ e. e.tile) h.state.log);
}

-- a side in a phase that these settings lead to
pub record IsHalf (core : CoreSettings) (p : Phase) (side : Side) (h : Half) : Type 0 where
  pub plan : IsPlanOf core p side h.plan
  pub same : h.state.plan ≡ h.plan
  pub kept : HalfKept core p side (half_seen core p side h)

-- the log after a post: a tile that is there already changes nothing
abbrev pub log_after : ℕ → ℕ → List Posting → List Posting
log_after number tile log = if nat_eq (posted_count tile log) 0 then log ++ record { number = number; tile = tile } ∷ [] else log

-- the hands and the log after a worker posts what it holds
abbrev pub hands_freed : ℕ → Hand → List Hand → List Hand
hands_freed w Free hands = hands
hands_freed w (Holding k) hands = slice_set hands w Free
hands_freed w Finished hands = hands

abbrev pub hands_posted : ℕ → List Hand → List Hand
hands_posted w hands = hands_freed w (hand_at hands w) hands

abbrev pub log_held : ℕ → Hand → List Posting → List Posting
log_held w Free log = log
log_held w (Holding k) log = log_after w k log
log_held w Finished log = log

abbrev pub log_posted : ℕ → List Hand → List Posting → List Posting
log_posted w hands log = log_held w (hand_at hands w) log

-- the log after a sweep of so many tiles
abbrev pub log_found : ℕ → Option ℕ → List Posting → List Posting
log_found number None log = log
log_found number (Some k) log = log_after number k log

abbrev pub log_swept : ℕ → ℕ → List Hand → List Posting → List Posting
log_swept number tiles hands log = if list_all is_finished hands then log_found number (unposted log 0 tiles) log else log

-- all but the log
pub record IsOnly (plan : PlanSeen) (counter : ℕ) (hands : List Hand) (cache : List CacheEntry) (h : Half) : Type 0 where
  pub plan_is : h.plan ≡ plan
  pub same : h.state.plan ≡ plan
  pub counter_is : h.counter ≡ counter
  pub hands_are : h.hands.items ≡ hands
  pub cache_is : h.cache.items ≡ cache
