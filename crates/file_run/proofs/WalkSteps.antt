-- What the walk's answer says of the run's.
use Rattle.std.proofs.Common.{◌≡◌, inl, ℕ, ◌≤◌, List, ◌++◌, length, drop, refl, sym, ap, subst, ◌∙◌, arith, inr}
use Rattle.std.specs.Prelude.{Option, None, Some, Result, Ok, Err, IfOk, IfSome, IsOk}
use Rattle.std.proofs.lemmas.List.{take_all}
use Rattle.std.proofs.Math.Seq.{drop-append_seam}
use Rattle.definitions.specs.Evaluation.{Share}
use Rattle.definitions.specs.declared.Side.TheVariants.{Zero, One}
use Rattle.shelf_io.specs.Talks.{Talk}
use Rattle.std.specs.List.Sorted.{IsPermutation}
use Rattle.walk_definitions.proofs.BatchLaws.{batch_law}
use Rattle.report_collection.proofs.Order.{same_shares}
use Rattle.walk_definitions.specs.Reports.{Report, batch}
use Rattle.walk_definitions.specs.Walk.{Settings, End, walk, capped, peer_message, views}
use Rattle.walk_definitions.specs.Messages.{Message, messages}
use Rattle.walk_definitions.specs.Heard.{Heard, heard}
use Rattle.shelf_io.specs.Seen.{LinkSeen, IsTrueAndIdle, Sources}
use Rattle.pair_run.specs.Keeps.{WalkKeeps}
use Rattle.pair_run.specs.Steps.{answer_end}
use Rattle.pair_run.specs.Talking.{Grew, SentMore}
use Rattle.pair_run.specs.Walks.{HeardSo}
use Rattle.pair_run.specs.declared.answers.Answer.{Answer}
use Rattle.pair_run.specs.declared.answers.PairError.{PairError}
use Rattle.answer_text.specs.AnswerText.{answer_text, sealed_line}
use Rattle.answer_text.specs.RefusedText.{refused_text}
use Rattle.file_run.specs.declared.errors.RunError.{RunError}
use Rattle.file_run.specs.declared.errors.RunError.TheVariants.{Memory, Walk}
use Rattle.file_run.specs.declared.rules.RunRules.{RunRules}
use Rattle.file_run.specs.declared.texts.RunTexts.{RunTexts}
use Rattle.pair_run.specs.Failures.{end_of}
use Rattle.pair_run.specs.declared.answers.PairError.TheVariants as walks
use Rattle.file_run.specs.Answers.{Ending, ended, run_answer, Answered, FindsHeavy, IsOfTheWalk}
use Rattle.file_run.specs.Beginnings.{Both, begun, settings_for, batch_for, refused_for}
use Rattle.file_run.specs.Hearings.{got, heard_between, heard_ending}
use Rattle.file_run.specs.Keeps.{RunKeeps}
use Rattle.file_run.specs.Sendings.{SentHeard, SentWhole, SentFront, SentBy}
use Rattle.file_run.proofs.ReadSteps.{some_map}

-- ---- the lists that were walked, and the lines of their malformed records

pub batches_same : (both : Both) (zeros ones : List Share) → IsPermutation both.0.shares zeros → IsPermutation both.1.shares ones
    → batch zeros ones ≡ batch_for both
batches_same both zeros ones zero one =
    sym (batch_law both.0.shares zeros both.1.shares ones (same_shares both.0.shares zeros zero) (same_shares both.1.shares ones one))

pub lines_same : (both : Both) (malformed0 malformed1 line text : List ℕ) → text ≡ (refused_text Zero malformed0 ++ refused_text One malformed1) ++ line
    → malformed0 ≡ both.0.malformed → malformed1 ≡ both.1.malformed → text ≡ refused_for both ++ line
lines_same both malformed0 malformed1 line text is zero one =
    is ∙ ap (λ m. (refused_text Zero m ++ refused_text One malformed1) ++ line) zero
    ∙ ap (λ m. (refused_text Zero both.0.malformed ++ refused_text One m) ++ line) one

-- ---- what was heard

-- the bytes received between two times are those by which what was received grew
grown : (before now more : List ℕ) → now ≡ before ++ more → drop (length before) now ≡ more
grown before now more h = ap (drop (length before)) h ∙ drop-append_seam before more

module _ (settings : Settings) (reports : List Report) where
  heard_is : (before now : Talk) (end : End) (sent : List Message) (zero one : List ℕ) → Grew before now sent zero one
      → heard settings reports zero one ≡ record { end = end; messages = sent } → heard_between before now settings reports ≡ record { end = end; messages = sent }
  heard_is before now end sent zero one grew h =
      ap (λ xs. heard settings reports xs (got One before now)) (grown before.received.zero now.received.zero zero grew.zero_grew)
      ∙ ap (heard settings reports zero) (grown before.received.one now.received.one one grew.one_grew)
      ∙ h

  -- what holds of each way to end that an end heard goes with holds of the one that was heard
  heard_by : (before after : Option Talk) (o : Option End) (P : Ending → Type 0) → IfSome o (HeardSo settings reports before after)
      → ((ending : Ending) → IfSome o (λ end. ending settings reports ≡ end) → P ending) → IfSome (heard_ending before after) P
  heard_by None after o P h f = tt
  heard_by (Some before) None o P h f = tt
  heard_by (Some before) (Some after) o P h f = f (λ s rs. (heard_between before after s rs).end) (at o h)
    where
      at : (o : Option End) → IfSome o (HeardSo settings reports (Some before) (Some after)) → IfSome o (λ end. (heard_between before after settings reports).end ≡ end)
      at None h = tt
      at (Some end) (sent, zero, one, grew, is) = ap (λ (x : Heard). x.end) (heard_is before after end sent zero one grew is)

  heard_sent : (before now : Option Talk) (end : End) → HeardSo settings reports before now end → SentHeard settings reports before now
  heard_sent None now end h = tt
  heard_sent (Some before) None end h = h
  heard_sent (Some before) (Some now) end (sent, zero, one, grew, is) =
      grew.sent_grew ∙ ap (λ ms. before.sent ++ ms) (sym (ap (λ (x : Heard). x.messages) (heard_is before now end sent zero one grew is)))

  whole : (before after : LinkSeen) (end : End) → HeardSo settings reports before.talk after.talk end → (IsTrueAndIdle before → IsTrueAndIdle after)
      → (IsTrueAndIdle before → SentMore before.talk after.talk (messages settings reports)) → SentWhole settings reports before after
  whole before after end h again sends = record { heard = heard_sent before.talk after.talk end h; truly = λ ready. (again ready, sends ready) }

  pub front : (before after : LinkSeen) → SentWhole settings reports before after → SentFront settings reports before after
  front before after sent ready = (
    length (messages settings reports),
    subst (λ ms. SentMore before.talk after.talk ms) (sym (take_all (length (messages settings reports)) (messages settings reports) (omega arith))) (sent.truly ready).1,
  )

-- the promise of a walk of equal settings and reports
pub same_walk : (settings settings' : Settings) (reports reports' : List Report) (before after : LinkSeen) (result : Result Answer PairError)
    → settings ≡ settings' → reports ≡ reports' → WalkKeeps settings reports before after result → WalkKeeps settings' reports' before after result
same_walk settings settings' reports reports' before after result s r k =
    subst (λ x. WalkKeeps x reports' before after result) s (subst (λ x. WalkKeeps settings x before after result) r k)

module _ (rules : RunRules) (both : Both) where
  abbrev asked : Settings
  asked = settings_for rules both.0.width

  -- an error of the walk is the run's, where the walk ends with it
  error_answered : (ending : Ending) (e : PairError) → IfSome (end_of e) (λ end. ending asked (batch_for both) ≡ end)
      → Answered (Err (Walk e)) (run_answer ending rules (Ok both))
  error_answered ending (walks.Cap level wanted) h = inr (ap (ended (refused_for both) (length (batch_for both))) h)
  error_answered ending walks.Link h = inl tt
  error_answered ending (walks.PeerMessage level kind at) h = inr (ap (ended (refused_for both) (length (batch_for both))) h)
  error_answered ending (walks.Views level kind place left right) h = inr (ap (ended (refused_for both) (length (batch_for both))) h)
  error_answered ending walks.Memory h = inl tt

  module _ (before after : LinkSeen) where
    error_sent : (e : PairError) → WalkKeeps asked (batch_for both) before after (Err e) → SentBy rules both before after (Err (Walk e))
    error_sent (walks.Cap level wanted) k = whole asked (batch_for both) before after (capped level wanted) k.heard k.again k.sends
    error_sent walks.Link k = k.sends
    error_sent (walks.PeerMessage level kind at) k = whole asked (batch_for both) before after (peer_message level kind at) k.heard k.again k.sends
    error_sent (walks.Views level kind place left right) k =
        whole asked (batch_for both) before after (views level kind place left right) k.heard k.again k.sends
    error_sent walks.Memory k = k.sends

    error_agreed : (e : PairError) → WalkKeeps asked (batch_for both) before after (Err e) → IsTrueAndIdle before → IsOfTheWalk (Walk e)
    error_agreed (walks.Cap level wanted) k ready = tt
    error_agreed walks.Link k ready = tt
    error_agreed (walks.PeerMessage level kind at) k ready = (k.truly ready).1
    error_agreed (walks.Views level kind place left right) k ready = (k.truly ready).1
    error_agreed walks.Memory k ready = tt

  -- ---- a walk with an answer

  module _ (texts : RunTexts) (answer : Answer) (out : texts.out.items ≡ answer_text answer.heavy)
      (err : texts.err.items ≡ refused_for both ++ sealed_line answer.sealed answer.passed answer.levels) (count : answer.sealed ≡ length (batch_for both)) where
    texts_answered : (ending : Ending) → ending asked (batch_for both) ≡ answer_end answer → Answered (Ok texts) (run_answer ending rules (Ok both))
    texts_answered ending h =
        ap (ended (refused_for both) (length (batch_for both))) h
        ∙ ap (λ n. ended (refused_for both) n (answer_end answer)) (sym count)
        ∙ ap (λ line. Ok (answer_text answer.heavy, line)) (sym err)
        ∙ ap (λ text. Ok (text, texts.err.items)) (sym out)

    texts_heavy : (before after : LinkSeen) → WalkKeeps asked (batch_for both) before after (Ok answer) → IsTrueAndIdle before → FindsHeavy rules both texts
    texts_heavy before after k ready strings generated =
        let is = k.honest ready strings generated in (
          out ∙ ap answer_text is.1,
          (
            answer.levels,
            err ∙ ap (λ n. refused_for both ++ sealed_line n answer.passed answer.levels) count
                ∙ ap (λ n. refused_for both ++ sealed_line (length (batch_for both)) n answer.levels) is.0,
          ),
        )

-- ---- the promise of the run, where the files go together

module _ (zero one : List ℕ) (rules : RunRules) (before after : Sources) (both : Both)
    (found : IfSome before.shelf.files (λ held. begun zero one held ≡ Ok both))
    (kept : after.shelf.files ≡ before.shelf.files) (later : before.shelf.faults ≤ after.shelf.faults) where
  -- a fact of what the files come to
  of_both : (P : Result Both RunError → Type 0) → P (Ok both) → IfSome before.shelf.files (λ held. P (begun zero one held))
  of_both P h = some_map before.shelf.files (λ held. begun zero one held ≡ Ok both) (λ held. P (begun zero one held)) (λ held is. subst P (sym is) h) found

  pub error_keeps : (e : PairError) → WalkKeeps (settings_for rules both.0.width) (batch_for both) before.link after.link (Err e)
      → RunKeeps zero one rules before after (Err (Walk e))
  error_keeps e k = record {
    kept = kept;
    shelf = record { later = later; rose = λ h. absurd h };
    link = record { later = k.later; rose = λ h. k.cause cc };
    unsent = tt;
    begins = of_both (λ f. IsOk f) refl;
    heard = of_both (λ f. IfSome (heard_ending before.link.talk after.link.talk) (λ ending. Answered (Err (Walk e)) (run_answer ending rules f)))
        (heard_by (settings_for rules both.0.width) (batch_for both) before.link.talk after.link.talk (end_of e) _ k.heard (λ ending. error_answered rules both ending e));
    sent = of_both (λ f. IfOk f (λ b. SentBy rules b before.link after.link (Err (Walk e)))) (error_sent rules both before.link after.link e k);
    truly = λ ready. of_both (λ f. Answered (Err (Walk e)) (run_answer walk rules f)) (error_answered rules both walk e
        (some_map (end_of e) _ (λ end. walk (settings_for rules both.0.width) (batch_for both) ≡ end) (λ end h. h.0) (k.truly ready)));
    honest = λ ready. of_both (λ f. IfOk f (λ b. IfOk {E = RunError} (Err (Walk e)) (FindsHeavy rules b))) tt;
    agreed = error_agreed rules both before.link after.link e k;
  }

  pub texts_keeps : (texts : RunTexts) (answer : Answer) → texts.out.items ≡ answer_text answer.heavy
      → texts.err.items ≡ refused_for both ++ sealed_line answer.sealed answer.passed answer.levels
      → WalkKeeps (settings_for rules both.0.width) (batch_for both) before.link after.link (Ok answer)
      → RunKeeps zero one rules before after (Ok texts)
  texts_keeps texts answer out err k = record {
    kept = kept;
    shelf = record { later = later; rose = tt };
    link = record { later = k.later; rose = tt };
    unsent = tt;
    begins = of_both (λ f. IsOk f) refl;
    heard = of_both (λ f. IfSome (heard_ending before.link.talk after.link.talk) (λ ending. Answered (Ok texts) (run_answer ending rules f)))
        (heard_by (settings_for rules both.0.width) (batch_for both) before.link.talk after.link.talk (Some (answer_end answer)) _ k.heard
        (λ ending. texts_answered rules both texts answer out err k.sealed ending));
    sent = of_both (λ f. IfOk f (λ b. SentBy rules b before.link after.link (Ok texts)))
        (whole (settings_for rules both.0.width) (batch_for both) before.link after.link (answer_end answer) k.heard k.again k.sends);
    truly = λ ready. of_both (λ f. Answered (Ok texts) (run_answer walk rules f)) (texts_answered rules both texts answer out err k.sealed walk (k.truly ready).0);
    honest = λ ready. of_both (λ f. IfOk f (λ b. IfOk {E = RunError} (Ok texts) (FindsHeavy rules b)))
        (texts_heavy rules both texts answer out err k.sealed before.link after.link k ready);
    agreed = λ ready. tt;
  }

  pub no_texts_keeps : (answer : Answer) → WalkKeeps (settings_for rules both.0.width) (batch_for both) before.link after.link (Ok answer)
      → RunKeeps zero one rules before after (Err Memory)
  no_texts_keeps answer k = record {
    kept = kept;
    shelf = record { later = later; rose = λ h. absurd h };
    link = record { later = k.later; rose = λ h. cc };
    unsent = tt;
    begins = of_both (λ f. IsOk f) refl;
    heard = of_both (λ f. IfSome (heard_ending before.link.talk after.link.talk) (λ ending. Answered (Err Memory) (run_answer ending rules f)))
        (heard_by (settings_for rules both.0.width) (batch_for both) before.link.talk after.link.talk (Some (answer_end answer)) _ k.heard (λ ending h. inl tt));
    sent = of_both (λ f. IfOk f (λ b. SentBy rules b before.link after.link (Err Memory)))
        (front (settings_for rules both.0.width) (batch_for both) before.link after.link
        (whole (settings_for rules both.0.width) (batch_for both) before.link after.link (answer_end answer) k.heard k.again k.sends));
    truly = λ ready. of_both (λ f. Answered (Err Memory) (run_answer walk rules f)) (inl tt);
    honest = λ ready. of_both (λ f. IfOk f (λ b. IfOk {E = RunError} (Err Memory) (FindsHeavy rules b))) tt;
    agreed = λ ready. tt;
  }
