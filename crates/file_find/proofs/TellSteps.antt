-- From the promise of the walk over what is made of strings to that of the search.
use Rattle.std.proofs.Common.{◌≡◌, ◌≤◌, ◌*◌, ◌<◌, inl, inr, ℕ, Bool, List, length, refl, sym, ap, ◌∙◌, arith, lit≤}
use Rattle.std.specs.Prelude.{Some, Ok, Err, IfSome, ◌^◌}
use Rattle.std.specs.List.{All}
use Rattle.definitions.specs.Field.{modulus}
use Rattle.text_strings.specs.Lines.{most_strings}
use Rattle.shelf_io.specs.Seen.{LinkSeen, IsTrueAndIdle}
use Rattle.walk_definitions.specs.Reports.{Report}
use Rattle.walk_definitions.specs.Walk.{Settings, walk, capped, peer_message, views}
use Rattle.pair_run.specs.Failures.{end_of}
use Rattle.pair_run.specs.Keeps.{WalkKeeps}
use Rattle.pair_run.specs.Steps.{answer_end}
use Rattle.pair_run.specs.declared.answers.Answer.{Answer}
use Rattle.pair_run.specs.declared.answers.PairError.{PairError}
use Rattle.pair_run.specs.declared.answers.PairError.TheVariants as walks
use Rattle.pair_shares.specs.Laws.{WalksOver as MadeWalks}
use Rattle.pair_shares.proofs.MadeBatch.{batch_law}
use Rattle.pair_shares.proofs.MadeWalk.{walk_law}
use Rattle.answer_text.specs.AnswerText.{sealed_line}
use Rattle.file_run.specs.Answers.{Ending}
use Rattle.file_run.specs.declared.texts.RunTexts.{RunTexts}
use Rattle.file_run.proofs.ReadSteps.{some_map}
use Rattle.file_run.proofs.WalkSteps.{front}
use Rattle.file_find.specs.Answers.{Text, ended, find_answer, Answered, FindsHeavy, Finds, IsAgreed}
use Rattle.file_find.specs.Keeps.{TellsKeeps}
use Rattle.file_find.specs.Ranges.{IsInRange}
use Rattle.file_find.specs.Sendings.{SentBy}
use Rattle.file_find.specs.Walks.{settings_for, reports_for}
use Rattle.file_find.specs.declared.errors.FindError.TheVariants.{Walk, Memory}
use Rattle.file_find.specs.declared.rules.FindRules.{FindRules}
use Rattle.file_find.proofs.HeardSteps.{heard_by, whole}

below_modulus : {n : ℕ} → n ≤ most_strings → n < modulus
below_modulus {n} h = let most : 2 ^ 27 ≤ modulus = lit≤ tt in omega (arith, h, most)

module _ (text : Text) (rules : FindRules) (strings : List (List Bool)) (range : IsInRange rules)
    (long : All (λ s. length s ≡ 8 * rules.width) strings) (few : length strings ≤ most_strings) where
  abbrev asked : Settings
  asked = settings_for rules

  abbrev reports : List Report
  reports = reports_for rules strings

  made : MadeWalks asked rules.master rules.tag strings
  made = walk_law asked rules.master rules.tag strings (omega (arith, range.some_width)) range.some_threshold (below_modulus few) long

  pub count : length reports ≡ length strings
  count = (batch_law rules.master rules.tag strings (omega (arith, few))).count

  module _ (before after : LinkSeen) where
    -- ---- an error of the walk is the search's, where the walk ends with it

    error_answered : (ending : Ending) (e : PairError) → IfSome (end_of e) (λ end. ending asked reports ≡ end)
        → Answered (Err (Walk e)) (find_answer text ending rules (Ok strings))
    error_answered ending (walks.Cap level wanted) h = inr (ap (ended text (length strings)) h)
    error_answered ending walks.Link h = inl tt
    error_answered ending (walks.PeerMessage level kind at) h = inr (ap (ended text (length strings)) h)
    error_answered ending (walks.Views level kind place left right) h = inr (ap (ended text (length strings)) h)
    error_answered ending walks.Memory h = inl tt

    error_sent : (e : PairError) → WalkKeeps asked reports before after (Err e) → SentBy rules strings before after (Err (Walk e))
    error_sent (walks.Cap level wanted) k = whole asked reports before after (capped level wanted) k.heard k.again k.sends
    error_sent walks.Link k = k.sends
    error_sent (walks.PeerMessage level kind at) k = whole asked reports before after (peer_message level kind at) k.heard k.again k.sends
    error_sent (walks.Views level kind place left right) k =
        whole asked reports before after (views level kind place left right) k.heard k.again k.sends
    error_sent walks.Memory k = k.sends

    error_agreed : (e : PairError) → WalkKeeps asked reports before after (Err e) → IsTrueAndIdle before → IsAgreed (Walk e)
    error_agreed (walks.Cap level wanted) k ready = tt
    error_agreed walks.Link k ready = tt
    error_agreed (walks.PeerMessage level kind at) k ready = (k.truly ready).1
    error_agreed (walks.Views level kind place left right) k ready = (k.truly ready).1
    error_agreed walks.Memory k ready = tt

    error_finds : (e : PairError) → WalkKeeps asked reports before after (Err e) → IsTrueAndIdle before → Finds text rules strings (Err (Walk e))
    error_finds (walks.Cap level wanted) k ready = made.cap level wanted (k.truly ready).0
    error_finds walks.Link k ready = tt
    error_finds (walks.PeerMessage level kind at) k ready = tt
    error_finds (walks.Views level kind place left right) k ready = tt
    error_finds walks.Memory k ready = tt

    pub error_tells : (e : PairError) → WalkKeeps asked reports before after (Err e) → TellsKeeps text rules strings before after (Err (Walk e))
    error_tells e k = record {
      own = tt;
      link = record { later = k.later; rose = λ h. k.cause cc };
      agreed = error_agreed e k;
      told = record {
        begins = refl;
        heard = heard_by asked reports before.talk after.talk (end_of e) (λ ending. Answered (Err (Walk e)) (find_answer text ending rules (Ok strings)))
            k.heard (λ ending. error_answered ending e);
        sent = error_sent e k;
        truly = λ ready. error_answered walk e (some_map (end_of e) _ (λ end. walk asked reports ≡ end) (λ end h. h.0) (k.truly ready));
        finds = error_finds e k;
      };
    }

    -- ---- a walk with an answer

    module _ (answer : Answer) (k : WalkKeeps asked reports before after (Ok answer)) where
      sealed : answer.sealed ≡ length strings
      sealed = k.sealed ∙ count

      module _ (texts : RunTexts) (out : texts.out.items ≡ text answer.heavy)
          (err : texts.err.items ≡ sealed_line answer.sealed answer.passed answer.levels) where
        texts_answered : (ending : Ending) → ending asked reports ≡ answer_end answer → Answered (Ok texts) (find_answer text ending rules (Ok strings))
        texts_answered ending h =
            ap (ended text (length strings)) h
            ∙ ap (λ n. ended text n (answer_end answer)) (sym sealed)
            ∙ ap (λ line. Ok (text answer.heavy, line)) (sym err)
            ∙ ap (λ t. Ok (t, texts.err.items)) (sym out)

        texts_find : IsTrueAndIdle before → FindsHeavy text rules strings texts
        texts_find ready =
            let is = made.answer answer.levels answer.passed answer.heavy (k.truly ready).0 in
            record {
              out = out ∙ ap text is.found_is;
              level = answer.levels;
              err = err ∙ ap (λ n. sealed_line n answer.passed answer.levels) sealed
                  ∙ ap (λ n. sealed_line (length strings) n answer.levels) is.passed_is;
              last = is.last;
              done = is.done;
            }

        pub texts_tell : TellsKeeps text rules strings before after (Ok texts)
        texts_tell = record {
          own = tt;
          link = record { later = k.later; rose = tt };
          agreed = λ ready. tt;
          told = record {
            begins = refl;
            heard = heard_by asked reports before.talk after.talk (Some (answer_end answer)) (λ ending. Answered (Ok texts) (find_answer text ending rules (Ok strings)))
                k.heard (λ ending. texts_answered ending);
            sent = whole asked reports before after (answer_end answer) k.heard k.again k.sends;
            truly = λ ready. texts_answered walk (k.truly ready).0;
            finds = texts_find;
          };
        }

      pub no_texts_tell : TellsKeeps text rules strings before after (Err Memory)
      no_texts_tell = record {
        own = tt;
        link = record { later = k.later; rose = λ h. cc };
        agreed = λ ready. tt;
        told = record {
          begins = refl;
          heard = heard_by asked reports before.talk after.talk (Some (answer_end answer)) (λ ending. Answered (Err Memory) (find_answer text ending rules (Ok strings)))
              k.heard (λ ending h. inl tt);
          sent = front asked reports before after (whole asked reports before after (answer_end answer) k.heard k.again k.sends);
          truly = λ ready. inl tt;
          finds = λ ready. tt;
        };
      }
