-- The walk over a link from a frontier's level on.
use Rattle.std.specs.Prelude.{◌≡◌, ℕ, suc, ◌-◌, Bool, List, ◌++◌, Option, None, Some, length}
use Rattle.shelf_io.specs.Talks.{Talk}
use Rattle.walk_definitions.specs.Reports.{Report}
use Rattle.walk_definitions.specs.Walk.{Settings, End, done, capped, peer_message, views, ending, stage_after, survivors_at, live_at}
use Rattle.walk_definitions.specs.Messages.{Message, messages_from, messages_at}
use Rattle.walk_definitions.specs.Heard.{Heard, preceded, heard, heard_from}
use Rattle.frontier_walk.specs.Frontiers.{Frontier}
use Rattle.pair_run.specs.Levels.{stage_of}
use Rattle.shelf_io.specs.Seen.{IsReady}
use Rattle.pair_run.specs.Talking.{Passed, SentMore, SentPart}

-- what is heard from a frontier's level on
abbrev pub heard_here : Settings → Frontier → List Report → List ℕ → List ℕ → Heard
heard_here settings frontier live got0 got1 =
    heard_from settings (frontier.bits - frontier.level) frontier.level frontier.candidates live got0 got1

-- the end of the walk from there on, and its messages
abbrev pub ending_here : Settings → List Report → Frontier → End
ending_here settings batch frontier =
    ending frontier.cap (survivors_at settings batch) (λ level. length (live_at settings batch level)) (frontier.bits - frontier.level) frontier.level

abbrev pub messages_here : Settings → List Report → Frontier → List Message
messages_here settings batch frontier =
    messages_from frontier.cap (survivors_at settings batch) (messages_at settings batch) (frontier.bits - frontier.level) frontier.level

-- the live reports and the frontier's candidates are those of the walk
abbrev pub IsStage : Settings → List Report → Frontier → List Report → Type 0
IsStage settings batch frontier live =
    (walked : ℕ) × (frontier.level ≡ suc walked) × (stage_of live frontier.candidates ≡ stage_after settings batch walked)

-- the walk from there on was heard to end so, of what passed
abbrev pub EndsSo : Settings → Frontier → List Report → End → List Message → List ℕ → List ℕ → Type 0
EndsSo settings frontier live end sent got0 got1 = heard_here settings frontier live got0 got1 ≡ record { end = end; messages = sent }

-- the walk went on from one frontier to another, of what passed
abbrev pub GoesTo : Settings → Frontier → List Report → Frontier → List Report → List Message → List ℕ → List ℕ → Type 0
GoesTo settings frontier live next passed sent got0 got1 =
    (rest0 rest1 : List ℕ) → heard_here settings frontier live (got0 ++ rest0) (got1 ++ rest1) ≡ preceded sent (heard_here settings next passed rest0 rest1)

-- on a true link the walk ended as the definition does, with just its messages; without an end it sent the first of them
abbrev pub TrulyEnds : Settings → List Report → Frontier → Bool → Option Talk → Option Talk → Option End → Type 0
TrulyEnds settings batch frontier truth before now None = SentPart before now (messages_here settings batch frontier)
TrulyEnds settings batch frontier truth before now (Some end) =
    (ending_here settings batch frontier ≡ end) × IsReady truth now × SentMore before now (messages_here settings batch frontier)

-- on a true link the walk went on as the definition does
pub record TrulyGoes (settings : Settings) (batch : List Report) (frontier next : Frontier) (passed : List Report) (truth : Bool) (before now : Option Talk) : Type 0 where
  pub sent : List Message
  pub stage : IsStage settings batch next passed
  pub ready : IsReady truth now
  pub sent_more : SentMore before now sent
  pub same_end : ending_here settings batch frontier ≡ ending_here settings batch next
  pub same_messages : messages_here settings batch frontier ≡ sent ++ messages_here settings batch next

-- ---- the whole walk

-- a walk over a link ended so: it is the end of what the sides heard in it, with just the messages of that
abbrev pub HeardSo : Settings → List Report → Option Talk → Option Talk → End → Type 0
HeardSo settings batch before now end =
    Passed before now (λ sent got0 got1. heard settings batch got0 got1 ≡ record { end = end; messages = sent })

-- the walk ends without a cap
abbrev pub IsUncapped : End → Type 0
IsUncapped (done levels passed heavy) = Unit {0}
IsUncapped (capped level wanted) = ⊥
IsUncapped (peer_message level kind at) = Unit {0}
IsUncapped (views level kind place x y) = Unit {0}
