-- What a walk's promise says of what was heard and sent.
use Rattle.std.proofs.Common.{◌≡◌, List, ◌++◌, length, drop, sym, ap, ◌∙◌, ℕ}
use Rattle.std.specs.Prelude.{Option, None, Some, IfSome}
use Rattle.std.proofs.Math.Seq.{drop-append_seam}
use Rattle.definitions.specs.declared.Side.TheVariants.{One}
use Rattle.shelf_io.specs.Seen.{LinkSeen, IsTrueAndIdle}
use Rattle.shelf_io.specs.Talks.{Talk}
use Rattle.walk_definitions.specs.Reports.{Report}
use Rattle.walk_definitions.specs.Walk.{Settings, End}
use Rattle.walk_definitions.specs.Messages.{Message, messages}
use Rattle.walk_definitions.specs.Heard.{Heard, heard}
use Rattle.pair_run.specs.Talking.{Grew, SentMore}
use Rattle.pair_run.specs.Walks.{HeardSo}
use Rattle.file_run.specs.Answers.{Ending}
use Rattle.file_run.specs.Hearings.{got, heard_between, heard_ending}
use Rattle.file_run.specs.Sendings.{SentHeard, SentWhole}

-- the bytes received between two times are those by which what was received grew
grown : (before now more : List ℕ) → now ≡ before ++ more → drop (length before) now ≡ more
grown before now more h = ap (drop (length before)) h ∙ drop-append_seam before more

module _ (settings : Settings) (reports : List Report) where
  heard_is : (before now : Talk) (end : End) (sent : List Message) (zero one : List ℕ) → Grew before now sent zero one
      → heard settings reports zero one ≡ record { end = end; messages = sent } → heard_between before now settings reports ≡ record { end = end; messages = sent }
  heard_is before now end sent zero one grew h =
      ap (λ xs. heard settings reports xs (got One before now)) (grown before.received.zero now.received.zero zero grew.zero_grew)
      ∙ ap (heard settings reports zero) (grown before.received.one now.received.one one grew.one_grew)
      ∙ h

  -- what holds of each way to end that an end heard goes with holds of the one that was heard
  pub heard_by : (before after : Option Talk) (o : Option End) (P : Ending → Type 0) → IfSome o (HeardSo settings reports before after)
      → ((ending : Ending) → IfSome o (λ end. ending settings reports ≡ end) → P ending) → IfSome (heard_ending before after) P
  heard_by None after o P h f = tt
  heard_by (Some before) None o P h f = tt
  heard_by (Some before) (Some after) o P h f = f (λ s rs. (heard_between before after s rs).end) (at o h)
    where
      at : (o : Option End) → IfSome o (HeardSo settings reports (Some before) (Some after)) → IfSome o (λ end. (heard_between before after settings reports).end ≡ end)
      at None h = tt
      at (Some end) (sent, zero, one, grew, is) = ap (λ (x : Heard). x.end) (heard_is before after end sent zero one grew is)

  heard_sent : (before now : Option Talk) (end : End) → HeardSo settings reports before now end → SentHeard settings reports before now
  heard_sent None now end h = tt
  heard_sent (Some before) None end h = h
  heard_sent (Some before) (Some now) end (sent, zero, one, grew, is) =
      grew.sent_grew ∙ ap (λ ms. before.sent ++ ms) (sym (ap (λ (x : Heard). x.messages) (heard_is before now end sent zero one grew is)))

  pub whole : (before after : LinkSeen) (end : End) → HeardSo settings reports before.talk after.talk end → (IsTrueAndIdle before → IsTrueAndIdle after)
      → (IsTrueAndIdle before → SentMore before.talk after.talk (messages settings reports)) → SentWhole settings reports before after
  whole before after end h again sends = record { heard = heard_sent before.talk after.talk end h; truly = λ ready. (again ready, sends ready) }
