-- The promise of a walk over a link, one field for each sentence of it.
use Rattle.std.specs.Prelude.{◌≡◌, ◌≤◌, Bool, List, Option, None, Some, Result, Ok, Err, IfOk, IfErr, IfSome, length}
use Rattle.std.specs.List.{All}
use Rattle.shelf_io.specs.Faults.{Rose}
use Rattle.shelf_io.specs.Talks.{Talk}
use Rattle.walk_definitions.specs.Reports.{Report}
use Rattle.walk_definitions.specs.Walk.{Settings, End, done, capped, peer_message, views, live_at, walk}
use Rattle.walk_definitions.specs.Heavy.{heavy}
use Rattle.walk_definitions.specs.Laws.{AreGenerated}
use Rattle.walk_definitions.specs.Messages.{Message, messages}
use Rattle.pair_run.specs.declared.answers.Answer.{Answer}
use Rattle.pair_run.specs.declared.answers.PairError.{PairError}
use Rattle.pair_run.specs.declared.answers.PairError.TheVariants.{Link, Memory}
use Rattle.pair_run.specs.Failures.{end_of}
use Rattle.pair_run.specs.Steps.{answer_end}
use Rattle.shelf_io.specs.Seen.{LinkSeen, IsTrueAndIdle}
use Rattle.pair_run.specs.Talking.{SentMore, SentPart}
use Rattle.pair_run.specs.Walks.{HeardSo, IsUncapped}

-- the end that a walk came to, of an answer or of an error; none where the link failed or memory was short
abbrev pub end_reached : Result Answer PairError → Option End
end_reached (Ok answer) = Some (answer_end answer)
end_reached (Err e) = end_of e

-- an answer, or the cap
abbrev pub IsOwnEnd : End → Type 0
IsOwnEnd (done levels passed heavy) = Unit {0}
IsOwnEnd (capped level wanted) = Unit {0}
IsOwnEnd (peer_message level kind at) = ⊥
IsOwnEnd (views level kind place x y) = ⊥

-- the list sent grew by just these messages where the walk came to an end, and else by the first of them
abbrev pub SentUpTo : Option End → Option Talk → Option Talk → List Message → Type 0
SentUpTo None before after sent = SentPart before after sent
SentUpTo (Some end) before after sent = SentMore before after sent

-- a walk of the batch, between what the link told before and after
pub record WalkKeeps (settings : Settings) (batch : List Report) (before after : LinkSeen) (result : Result Answer PairError)
    : Type 0 where
  -- ON EVERY LINK. The answer counts the reports of the batch,
  pub sealed : IfOk result (λ answer. answer.sealed ≡ length batch)
  -- and its strings are as long as was asked.
  pub lengths : IfOk result (λ answer. All (λ h. length h.prefix ≡ settings.bits) answer.heavy)
  -- The end is that of what both sides received, and just the messages of that were sent.
  pub heard : IfSome (end_reached result) (HeardSo settings batch before.talk after.talk)
  -- The count of faults never falls,
  pub later : before.faults ≤ after.faults
  -- and the link is at fault only where it rose.
  pub cause : result ≡ Err Link → Rose before.faults after.faults
  -- ON A LINK THAT WAS TRUE AND IDLE. The end is the walk's own by its definition,
  pub truly : IsTrueAndIdle before → IfSome (end_reached result) (λ end. (walk settings batch ≡ end) × IsOwnEnd end)
  -- with just the walk's messages, or the first of them where it came to no end,
  pub sends : IsTrueAndIdle before → SentUpTo (end_reached result) before.talk after.talk (messages settings batch)
  -- and the link is true and idle again.
  pub again : IsTrueAndIdle before → IfSome (end_reached result) (λ end. IsTrueAndIdle after)
  -- Where the reports that pass the first level were generated, the answer is the frequent strings with their counts.
  pub honest : IsTrueAndIdle before → (strings : List (List Bool)) → AreGenerated settings.bits (live_at settings batch 1) strings
      → IfOk result (λ answer. (answer.passed ≡ length strings) × (answer.heavy ≡ heavy settings.bits strings settings.threshold))
  -- Where the walk has no cap and the link does not fail, the only error is want of memory.
  pub complete : IsTrueAndIdle before → IsUncapped (walk settings batch) → (Rose before.faults after.faults → ⊥)
      → IfErr result (λ e. e ≡ Memory)
