-- What is seen of a system.
use Rattle.std.specs.Prelude.{◌≡◌, ℕ, zero, suc, ◌-◌, Bool, List, [], Option, Some, None, IfSome, IfNone, map, slice_get}
use Rattle.walk_definitions.specs.Reports.{Report}
use Rattle.walk_definitions.specs.Walk.{Heavy, End, done, capped, peer_message, views, live_at, stage_after, walk}
use Rattle.core_definitions.specs.Phase as phase
use Rattle.core_definitions.specs.Phase.{CoreSettings, report_at}
use Rattle.core_definitions.specs.System.{System, Walking, collecting, walking, ended, totals_to}
use Rattle.phase_state.specs.declared.kind.Kind.{Kind}
use Rattle.phase_state.specs.declared.kind.Kind.TheVariants.{Sketch, Totals}
use Rattle.interleaving_core.specs.declared.outcomes.Outcome.{Outcome}
use Rattle.interleaving_core.specs.declared.outcomes.Outcome.TheVariants.{Done, Capped}
use Rattle.interleaving_core.specs.declared.systems.Standing.{Standing}
use Rattle.interleaving_core.specs.declared.systems.Standing.TheVariants.{Collecting, Walking as OnTheWay, Ended}
use Rattle.interleaving_core.specs.declared.walks.Walked.{Walked}

-- how a walk ended
pub data Ending : Type 0 where
  -- the answer
  answered : List Heavy → Ending
  -- the level, and twice the number of its survivors
  too_many : ℕ → ℕ → Ending

abbrev pub ending_of : Outcome → Ending
ending_of (Done heavy) = answered heavy.items
ending_of (Capped level wanted) = too_many level wanted

-- the end of a walk that receives no message is an answer or a cap
abbrev pub ending_at : End → Option Ending
ending_at (done level passed heavy) = Some (answered heavy)
ending_at (capped level wanted) = Some (too_many level wanted)
ending_at (peer_message level kind at) = None
ending_at (views level kind place x y) = None

-- the batch, the phase while the system walks, the level, its live reports as places in the batch, its candidates,
-- the totals of each level that was carried, and the outcome once it has ended
pub record SystemSeen : Type 0 where
  pub batch : Option (List Report)
  pub phase : Option Kind
  pub level : ℕ
  pub live : List ℕ
  pub candidates : List (List Bool)
  pub totals : List (List ℕ)
  pub outcome : Option Ending

abbrev pub named_kind : phase.Kind → Kind
named_kind phase.sketching = Sketch
named_kind phase.totalling = Totals

abbrev pub nothing_seen : SystemSeen
nothing_seen = record { batch = None; phase = None; level = 0; live = []; candidates = []; totals = []; outcome = None }

-- of the definitions' system
abbrev pub seen_walk : Walking → Option Kind → Option Ending → SystemSeen
seen_walk w kind outcome = record {
  batch = Some w.batch;
  phase = kind;
  level = suc w.past;
  live = w.live;
  candidates = w.candidates;
  totals = w.recorded;
  outcome = outcome;
}

abbrev pub seen : System → SystemSeen
seen (collecting log0 log1) = nothing_seen
seen (walking w) = seen_walk w (Some (named_kind w.kind)) None
seen (ended w end) = seen_walk w None (ending_at end)

-- of the program's
abbrev pub told : Walked → Option Kind → Option Ending → SystemSeen
told w kind outcome = record {
  batch = Some w.batch;
  phase = kind;
  level = w.frontier.level;
  live = w.live.items;
  candidates = w.frontier.candidates;
  totals = w.totals.items;
  outcome = outcome;
}

abbrev pub told_of : Standing → SystemSeen
told_of Collecting = nothing_seen
told_of (OnTheWay w) = told w (Some w.kind) None
told_of (Ended w outcome) = told w None (Some (ending_of outcome))

-- the totals of a level, counted from 1, where it was carried
abbrev pub totals_at : List (List ℕ) → ℕ → Option (List ℕ)
totals_at totals zero = None
totals_at totals (suc past) = slice_get totals past

-- ---- in the words of the walk over a batch

-- the live reports and the totals are those after so many levels
abbrev pub HasPassed : CoreSettings → List Report → ℕ → ℕ → SystemSeen → Type 0
HasPassed core whole checked carried s = (map (report_at whole) s.live ≡ live_at core.walk whole checked) × (s.totals ≡ totals_to core.walk whole carried)

abbrev pub IsAtPhase : CoreSettings → List Report → Option Kind → SystemSeen → Type 0
IsAtPhase core whole (Some Sketch) s = HasPassed core whole (s.level - 1) (s.level - 1) s × (s.outcome ≡ None)
IsAtPhase core whole (Some Totals) s = HasPassed core whole s.level (s.level - 1) s × (s.outcome ≡ None)
IsAtPhase core whole None s = HasPassed core whole s.level s.level s × IfSome s.outcome (λ e. ending_at (walk core.walk whole) ≡ Some e) × IfNone s.outcome ⊥

-- the system is on the one-thread walk over this batch, or has its end
pub record IsOnWalk (core : CoreSettings) (whole : List Report) (s : SystemSeen) : Type 0 where
  pub batch : s.batch ≡ Some whole
  pub candidates : s.candidates ≡ (stage_after core.walk whole (s.level - 1)).candidates
  -- live reports before the level's check in a phase of sketches, and after it in one of totals and at the end; totals of
  -- each level that was carried; and at the end the walk's outcome
  pub phase : IsAtPhase core whole s.phase s

-- before the batch is made nothing is seen
abbrev pub FollowsWalk : CoreSettings → List Report → SystemSeen → Type 0
FollowsWalk core whole s = IfNone s.batch (s ≡ nothing_seen) × IfSome s.batch (λ b. IsOnWalk core whole s)
