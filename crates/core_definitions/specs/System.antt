-- The system of events.
use Rattle.std.specs.Prelude.{◌≡◌, ℕ, zero, suc, ◌+◌, ◌-◌, ◌==◌, ◌≤◌, Bool, true, false, if◌then◌else◌, ◌&&◌, List, [], ◌∷◌, ◌++◌, Option, Some, None, map, length, nat_eq, nat_lt}
use Rattle.std.specs.List.{filter, list_all}
use Rattle.definitions.specs.declared.Side.{Side}
use Rattle.definitions.specs.declared.Side.TheVariants.{Zero, One}
use Rattle.definitions.specs.Field.{add}
use Rattle.definitions.specs.Prefixes.{AreCandidates}
use Rattle.definitions.specs.Evaluation.{Share}
use Rattle.definitions.specs.Sketch.{Sums, sums_added, masked, correlation}
use Rattle.walk_definitions.specs.Reports.{Report, held, same_bytes, same_share, batch}
use Rattle.walk_definitions.specs.Walk.{Settings, End, done, capped, peer_message, views, own_sigma, total, survivors, children, first_candidates, stage_after, live_at, survivors_at, goes_on, stopped, ending, walk}
use Rattle.walk_definitions.specs.Heard.{paired}
use Rattle.core_definitions.specs.declared.replies.Reply.{Reply}
use Rattle.core_definitions.specs.declared.replies.Reply.TheVariants.{Stored, Repeat, Clash}
use Rattle.core_definitions.specs.declared.hand.Hand.{Hand}
use Rattle.core_definitions.specs.declared.hand.Hand.TheVariants.{Free}
use Rattle.core_definitions.specs.Phase.{CoreSettings, Kind, sketching, totalling, Phase, report_at, Values, of_sketch, of_totals, no_values, CacheEntry, Half, HalfEvent, half_after, first_unposted, ArePlaces, HalfKept}

-- ---- intakes

pub record Entry : Type 0 where
  pub number : ℕ
  pub share : Share
  pub reply : Reply

abbrev pub reply_to : List Entry → Share → Reply
reply_to log share =
    let earlier = filter (λ e. same_bytes e.share.id share.id) log in
    if nat_eq (length earlier) 0 then Stored else if list_all (λ e. same_share e.share share) earlier then Repeat else Clash

abbrev pub uploaded : List Entry → ℕ → Share → List Entry
uploaded log number share = log ++ record { number = number; share = share; reply = reply_to log share } ∷ []

-- ---- walking

pub record Walking : Type 0 where
  pub batch : List Report
  -- the levels carried; the present level is one more
  pub past : ℕ
  pub kind : Kind
  pub live : List ℕ
  pub candidates : List (List Bool)
  pub half0 : Half
  pub half1 : Half
  -- the totals of each level carried
  pub recorded : List (List ℕ)

pub data System : Type 0 where
  collecting : List Entry → List Entry → System
  walking : Walking → System
  ended : Walking → End → System

abbrev pub first_system : System
first_system = collecting [] []

abbrev pub phase_of : Walking → Phase
phase_of w = record { batch = w.batch; level = suc w.past; kind = w.kind; live = w.live; candidates = w.candidates }

abbrev pub hands_of : ℕ → List Hand
hands_of zero = []
hands_of (suc n) = Free ∷ hands_of n

-- nothing is drawn and nothing posted
unfoldable pub fresh_half : CoreSettings → Phase → List CacheEntry → Half
fresh_half core phase cache = record {
  counter = 0;
  hands = hands_of core.workers;
  log = [];
  cache = cache;
  values = no_values phase phase.kind;
}

-- a phase begins
abbrev pub begun : CoreSettings → List Report → ℕ → Kind → List ℕ → List (List Bool) → List CacheEntry → List CacheEntry → List (List ℕ) → Walking
begun core batch past kind live candidates cache0 cache1 recorded =
    let phase : Phase = record { batch = batch; level = suc past; kind = kind; live = live; candidates = candidates } in
    record {
      batch = batch;
      past = past;
      kind = kind;
      live = live;
      candidates = candidates;
      half0 = fresh_half core phase cache0;
      half1 = fresh_half core phase cache1;
      recorded = recorded;
    }

abbrev pub places : ℕ → ℕ → List ℕ
places at zero = []
places at (suc count) = at ∷ places (at + 1) count

unfoldable pub sealed : CoreSettings → List Report → Walking
sealed core batch = begun core batch 0 sketching (places 0 (length batch)) first_candidates [] [] []

-- ---- a phase is carried

abbrev pub opened_at : List Report → ℕ → ℕ → Sums → Sums → Sums
opened_at batch level i s t =
    sums_added (masked s (correlation (held (report_at batch i) Zero).corr level))
    (masked t (correlation (held (report_at batch i) One).corr level))

abbrev pub passes_by : List Report → ℕ → ℕ → Sums → Sums → Bool
passes_by batch level i s t =
    let opened = opened_at batch level i s t in
    add (own_sigma level Zero (report_at batch i) opened) (own_sigma level One (report_at batch i) opened) == 0

-- the places of the reports that pass by the sums of both sides
abbrev pub passed_by : List Report → ℕ → List ℕ → List Sums → List Sums → List ℕ
passed_by batch level [] ss ts = []
passed_by batch level (i ∷ is) [] ts = []
passed_by batch level (i ∷ is) (s ∷ ss) [] = []
passed_by batch level (i ∷ is) (s ∷ ss) (t ∷ ts) =
    if passes_by batch level i s t then i ∷ passed_by batch level is ss ts else passed_by batch level is ss ts

abbrev pub carried_totals : CoreSettings → Walking → List ℕ → System
carried_totals core w totals =
    let heavy = survivors core.walk.threshold w.candidates totals in
    let now = record w { recorded = w.recorded ++ totals ∷ [] } in
    if nat_eq (suc w.past) core.walk.bits then ended now (done (suc w.past) (length w.live) heavy)
    else if goes_on core.walk.cap heavy
    then walking (begun core w.batch (suc w.past) sketching w.live (children heavy) w.half0.cache w.half1.cache (w.recorded ++ totals ∷ []))
    else ended now (stopped (suc w.past) (length w.live) heavy)

abbrev pub carried : CoreSettings → Walking → Values → Values → System
carried core w (of_sketch ss) (of_sketch ts) =
    walking (begun core w.batch w.past totalling (passed_by w.batch (suc w.past) w.live ss ts) w.candidates w.half0.cache w.half1.cache w.recorded)
carried core w (of_sketch ss) (of_totals ts) = walking w
carried core w (of_totals ss) (of_sketch ts) = walking w
carried core w (of_totals ss) (of_totals ts) = carried_totals core w (paired add ss ts)

abbrev pub carried_where : CoreSettings → Walking → Option ℕ → Option ℕ → System
carried_where core w None None = carried core w w.half0.values w.half1.values
carried_where core w None (Some k) = walking w
carried_where core w (Some k) u = walking w

-- ---- events

pub data Event : Type 0 where
  upload : Side → ℕ → Share → Event
  seal : Event
  of_half : Side → HalfEvent → Event
  carry : Event

abbrev pub with_upload : Side → ℕ → Share → List Entry → List Entry → System
with_upload Zero number share log0 log1 = collecting (uploaded log0 number share) log1
with_upload One number share log0 log1 = collecting log0 (uploaded log1 number share)

abbrev pub with_half : CoreSettings → Walking → Side → HalfEvent → Walking
with_half core w Zero event = record w { half0 = half_after core (phase_of w) Zero event w.half0 }
with_half core w One event = record w { half1 = half_after core (phase_of w) One event w.half1 }

unfoldable pub after : CoreSettings → Event → System → System
after core (upload side number share) (collecting log0 log1) =
    if nat_lt number core.uploaders then with_upload side number share log0 log1 else collecting log0 log1
after core seal (collecting log0 log1) = walking (sealed core (batch (map (λ e. e.share) log0) (map (λ e. e.share) log1)))
after core (of_half side event) (collecting log0 log1) = collecting log0 log1
after core carry (collecting log0 log1) = collecting log0 log1
after core (upload side number share) (walking w) = walking w
after core seal (walking w) = walking w
after core (of_half side event) (walking w) = walking (with_half core w side event)
after core carry (walking w) =
    carried_where core w (first_unposted core (phase_of w) w.half0.log) (first_unposted core (phase_of w) w.half1.log)
after core event (ended w end) = ended w end

abbrev pub run : CoreSettings → List Event → System → System
run core [] system = system
run core (event ∷ events) system = run core events (after core event system)

-- ---- the shares uploaded before the batch is made

abbrev pub is_side : Side → Side → Bool
is_side Zero Zero = true
is_side Zero One = false
is_side One Zero = false
is_side One One = true

abbrev pub uploads : CoreSettings → Side → List Event → List Share
uploads core side [] = []
uploads core side (upload to number share ∷ events) =
    if nat_lt number core.uploaders && is_side side to then share ∷ uploads core side events else uploads core side events
uploads core side (seal ∷ events) = []
uploads core side (of_half to event ∷ events) = uploads core side events
uploads core side (carry ∷ events) = uploads core side events

-- ---- the fact that every event keeps

-- each reply is the one to the entries before
abbrev pub IsLegalAfter : List Entry → List Entry → Type 0
IsLegalAfter earlier [] = Unit {0}
IsLegalAfter earlier (e ∷ es) = (e.reply ≡ reply_to earlier e.share) × IsLegalAfter (earlier ++ e ∷ []) es

abbrev pub live_now : Settings → List Report → ℕ → Kind → List Report
live_now settings whole past sketching = live_at settings whole past
live_now settings whole past totalling = live_at settings whole (suc past)

-- the totals of the level after so many
abbrev pub next_totals : Settings → List Report → ℕ → List ℕ
next_totals settings whole past = map (total (live_at settings whole (suc past))) (stage_after settings whole past).candidates

-- of all levels up to one
abbrev pub totals_to : Settings → List Report → ℕ → List (List ℕ)
totals_to settings whole zero = []
totals_to settings whole (suc past) = totals_to settings whole past ++ next_totals settings whole past ∷ []

abbrev pub ending_from : Settings → List Report → ℕ → End
ending_from settings whole past =
    ending settings.cap (survivors_at settings whole) (λ level. length (live_at settings whole level)) (settings.bits - 1 - past) (suc past)

pub record WalkKept (core : CoreSettings) (w : Walking) : Type 0 where
  pub inside : suc w.past ≤ core.walk.bits
  pub live : map (report_at w.batch) w.live ≡ live_now core.walk w.batch w.past w.kind
  pub candidates : w.candidates ≡ (stage_after core.walk w.batch w.past).candidates
  -- what a phase's plan asks of its live reports and its candidates
  pub places : ArePlaces (length w.batch) w.live
  pub different : AreCandidates (suc w.past) w.candidates
  pub few : 2 ≤ core.walk.cap → length w.candidates ≤ core.walk.cap
  pub recorded : w.recorded ≡ totals_to core.walk w.batch w.past
  pub goes : ending_from core.walk w.batch w.past ≡ walk core.walk w.batch
  pub kept0 : HalfKept core (phase_of w) Zero w.half0
  pub kept1 : HalfKept core (phase_of w) One w.half1

abbrev pub level_of : End → ℕ
level_of (done level passed found) = level
level_of (capped level wanted) = level
level_of (peer_message level kind at) = level
level_of (views level kind place x y) = level

pub record EndKept (core : CoreSettings) (w : Walking) (end : End) : Type 0 where
  pub inside : suc w.past ≤ core.walk.bits
  pub live : map (report_at w.batch) w.live ≡ live_at core.walk w.batch (suc w.past)
  pub candidates : w.candidates ≡ (stage_after core.walk w.batch w.past).candidates
  pub recorded : w.recorded ≡ totals_to core.walk w.batch (suc w.past)
  pub last : level_of end ≡ suc w.past
  pub answer : end ≡ walk core.walk w.batch

-- zero and one are the shares that each side was given
abbrev pub SystemKept : CoreSettings → List Share → List Share → System → Type 0
SystemKept core zeros ones (collecting log0 log1) =
    (map (λ e. e.share) log0 ≡ zeros) × (map (λ e. e.share) log1 ≡ ones) × IsLegalAfter [] log0 × IsLegalAfter [] log1
SystemKept core zeros ones (walking w) = (w.batch ≡ batch zeros ones) × WalkKept core w
SystemKept core zeros ones (ended w end) = (w.batch ≡ batch zeros ones) × EndKept core w end
