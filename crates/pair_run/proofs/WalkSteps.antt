-- A step of the walk: from a level's result and its pruning to the walk from there on.
use Rattle.std.proofs.Common.{◌≡◌, ℕ, suc, ◌+◌, ◌-◌, ◌*◌, ◌≤◌, Bool, true, false, List, [], ◌∷◌, ◌++◌, None, Some, length, refl, sym, ◌∙◌, ap, subst, add-one, arith, append-nil}
use Rattle.std.proofs.Common.{inl, inr}
use Rattle.std.specs.Prelude.{Option, IfSome, map, if◌then◌else◌, nat_le}
use Rattle.std.proofs.lemmas.Bool.Decides.{eqb_tells}
use Rattle.shelf_io.specs.Talks.{Talk}
use Rattle.walk_definitions.specs.Reports.{Report}
use Rattle.walk_definitions.specs.Walk.{Settings, Heavy, Stage, End, done, capped, total, survivors, children, live_after, stage_after, live_at, survivors_at, goes_on, stopped}
use Rattle.walk_definitions.specs.Messages.{Message, level_messages, messages_at, messages_from}
use Rattle.walk_definitions.specs.Heard.{Heard, ended, preceded, heard_from}
use Rattle.walk_definitions.proofs.HeardSteps.{GoesThrough, heard-goes, heard-ends, heard-breaks}
use Rattle.walk_definitions.proofs.Steps.{stage-more, survivors_at-more}
use Rattle.frontier_walk.specs.Frontiers.{Frontier, first_frontier}
use Rattle.frontier_walk.specs.Outcomes.{Outcome, further, answered, too_many, following, halted, pruned}
use Rattle.frontier_walk.proofs.Endings.{ending_after, pruned-ends, further-follows}
use Rattle.std.specs.List.{All, AllByRecursion}
use Rattle.std.proofs.lemmas.List.Elements.{All-from_recursion, recursion_from_All}
use Rattle.pair_run.specs.declared.answers.PairError.{PairError}
use Rattle.pair_run.specs.declared.answers.PairError.TheVariants.{Cap, Link, PeerMessage, Views, Memory}
use Rattle.pair_run.specs.declared.step.Step.{Step}
use Rattle.pair_run.specs.declared.step.Step.TheVariants.{Done, Further}
use Rattle.pair_run.specs.Failures.{end_of, Stops}
use Rattle.pair_run.specs.Places.{picked}
use Rattle.pair_run.specs.Steps.{answer_end, IsOutcome, IsStop, StepHeard, StepTrue}
use Rattle.pair_run.specs.Levels.{stage_of}
use Rattle.pair_run.specs.Parts.{GoesOn, EndsThere, whole_level}
use Rattle.shelf_io.specs.Seen.{IsReady}
use Rattle.pair_run.specs.Talking.{Passed, SentMore, SentPart}
use Rattle.pair_run.specs.Walks.{heard_here, ending_here, messages_here, IsStage, EndsSo, GoesTo, TrulyEnds, TrulyGoes}
use Rattle.pair_run.proofs.Followed.{passed_map, passed_then, part_first, part_second, part_whole, sent_then}

-- ---- what is heard

-- what is heard behind a level, by what its pruning ends in
abbrev pub heard_after : Settings → ℕ → List Report → Outcome → List ℕ → List ℕ → Heard
heard_after settings level passed (further next) got0 got1 = heard_here settings next passed got0 got1
heard_after settings level passed (answered heavy) got0 got1 = ended (done level (length passed) heavy)
heard_after settings level passed (too_many at wanted) got0 got1 = ended (capped at wanted)

module _ (settings : Settings) (frontier : Frontier) (live : List Report) where
  module _ (within : frontier.level ≤ frontier.bits) (same_cap : frontier.cap ≡ settings.cap) (passed : List Report) (totals : List ℕ) where
    abbrev found : List Heavy
    found = survivors settings.threshold frontier.candidates totals

    abbrev outcome : Outcome
    outcome = pruned frontier totals settings.threshold

    abbrev after : Outcome → List ℕ → List ℕ → Heard
    after o got0 got1 = heard_after settings frontier.level passed o got0 got1

    before_last : (more : ℕ) (rest0 rest1 : List ℕ) → more ≡ frontier.bits - (frontier.level + 1) → (heavy : List Heavy)
        → (if goes_on frontier.cap heavy then heard_from settings more (suc frontier.level) (children heavy) passed rest0 rest1
        else ended (stopped frontier.level (length passed) heavy))
        ≡ after (if goes_on frontier.cap heavy then further (following frontier heavy) else halted frontier heavy) rest0 rest1
    before_last more rest0 rest1 e heavy = at heavy
      where
        next : (heavy : List Heavy) → heard_from settings more (suc frontier.level) (children heavy) passed rest0 rest1
            ≡ after (further (following frontier heavy)) rest0 rest1
        next heavy =
            ap (λ m. heard_from settings m (suc frontier.level) (children heavy) passed rest0 rest1) e
            ∙ ap (λ l. heard_from settings (frontier.bits - (frontier.level + 1)) l (children heavy) passed rest0 rest1) (sym (add-one frontier.level))

        choose : (b : Bool) (x : Heard) (heavy : List Heavy) → x ≡ after (halted frontier heavy) rest0 rest1
            → (if b then heard_from settings more (suc frontier.level) (children heavy) passed rest0 rest1 else x)
            ≡ after (if b then further (following frontier heavy) else halted frontier heavy) rest0 rest1
        choose true x heavy same = next heavy
        choose false x heavy same = same

        at : (heavy : List Heavy) → (if goes_on frontier.cap heavy then heard_from settings more (suc frontier.level) (children heavy) passed rest0 rest1
            else ended (stopped frontier.level (length passed) heavy))
            ≡ after (if goes_on frontier.cap heavy then further (following frontier heavy) else halted frontier heavy) rest0 rest1
        at [] = refl
        at (h ∷ hs) = choose (nat_le (2 * length (h ∷ hs)) frontier.cap) (ended (capped frontier.level (2 * length (h ∷ hs)))) (h ∷ hs) refl

    pub heard_on : (s : List Message) (z o : List ℕ) → GoesOn (whole_level settings frontier.level frontier.candidates live) (passed, totals) s z o
        → (rest0 rest1 : List ℕ) → heard_here settings frontier live (z ++ rest0) (o ++ rest1) ≡ preceded s (after outcome rest0 rest1)
    heard_on s z o goes rest0 rest1 =
        let through : GoesThrough settings frontier.level frontier.candidates live (z ++ rest0) (o ++ rest1) s passed totals rest0 rest1 =
        λ next. goes rest0 rest1 (λ x a b. next x.0 x.1 a b) in
        let rest = if goes_on frontier.cap found then further (following frontier found) else halted frontier found in
        elim (eqb_tells frontier.level frontier.bits) [
          | inl h ↦
              ap (λ m. heard_from settings m frontier.level frontier.candidates live (z ++ rest0) (o ++ rest1)) (omega (arith, h.1))
              ∙ heard-ends settings frontier.level frontier.candidates live (z ++ rest0) (o ++ rest1) s passed totals rest0 rest1 through
              ∙ sym (ap (λ b. preceded s (after (if b then answered found else rest) rest0 rest1)) h.0)
          | inr h ↦
              ap (λ m. heard_from settings m frontier.level frontier.candidates live (z ++ rest0) (o ++ rest1)) (omega (arith, h.1))
              ∙ heard-goes settings frontier.level frontier.candidates live (z ++ rest0) (o ++ rest1) (frontier.bits - (frontier.level + 1)) s passed totals rest0 rest1 through
              ∙ ap (λ cap. preceded s (if goes_on cap found then heard_from settings (frontier.bits - (frontier.level + 1)) (suc frontier.level) (children found) passed rest0 rest1
              else ended (stopped frontier.level (length passed) found))) (sym same_cap)
              ∙ ap (preceded s) (before_last (frontier.bits - (frontier.level + 1)) rest0 rest1 refl found)
              ∙ sym (ap (λ b. preceded s (after (if b then answered found else rest) rest0 rest1)) h.0)
        ]

    -- where nothing comes after the level
    ends_here : (end : End) (s : List Message) (z o : List ℕ) → ((rest0 rest1 : List ℕ) → after outcome rest0 rest1 ≡ ended end)
        → GoesOn (whole_level settings frontier.level frontier.candidates live) (passed, totals) s z o → EndsSo settings frontier live end s z o
    ends_here end s z o is goes =
        sym (ap (λ xs. heard_here settings frontier live xs o) (append-nil z)) ∙ sym (ap (λ xs. heard_here settings frontier live (z ++ []) xs) (append-nil o))
        ∙ heard_on s z o goes [] [] ∙ ap (preceded s) (is [] []) ∙ ap (λ ms. record { end = end; messages = ms }) (append-nil s)

    pub passed_end : (t0 t1 : Option Talk) (end : End) → ((rest0 rest1 : List ℕ) → after outcome rest0 rest1 ≡ ended end)
        → Passed t0 t1 (GoesOn (whole_level settings frontier.level frontier.candidates live) (passed, totals)) → Passed t0 t1 (EndsSo settings frontier live end)
    passed_end t0 t1 end is h =
        passed_map t0 t1 (GoesOn (whole_level settings frontier.level frontier.candidates live) (passed, totals)) (EndsSo settings frontier live end)
        (λ s z o goes. ends_here end s z o is goes) h

    pub passed_on : (t0 t1 : Option Talk) (next : Frontier) (still : List Report) → outcome ≡ further next → still ≡ passed
        → Passed t0 t1 (GoesOn (whole_level settings frontier.level frontier.candidates live) (passed, totals)) → Passed t0 t1 (GoesTo settings frontier live next still)
    passed_on t0 t1 next still is same h =
        passed_map t0 t1 (GoesOn (whole_level settings frontier.level frontier.candidates live) (passed, totals)) (GoesTo settings frontier live next still)
        (λ s z o goes rest0 rest1. heard_on s z o goes rest0 rest1
        ∙ ap (preceded s) (ap (λ o. after o rest0 rest1) is ∙ sym (ap (λ rs. heard_here settings next rs rest0 rest1) same))) h

  -- the level ended the walk
  pub breaks_here : (end : End) (s : List Message) (z o : List ℕ) → EndsThere (whole_level settings frontier.level frontier.candidates live) end s z o
      → EndsSo settings frontier live end s z o
  breaks_here end s z o h =
      heard-breaks settings frontier.level frontier.candidates live z o (frontier.bits - frontier.level) (record { end = end; messages = s })
      (λ next. h (λ x a b. next x.0 x.1 a b))

-- ---- on a true link

-- the messages behind a level, by what its pruning ends in
abbrev pub messages_after : Settings → List Report → Outcome → List Message
messages_after settings batch (further next) = messages_here settings batch next
messages_after settings batch (answered heavy) = []
messages_after settings batch (too_many at wanted) = []

module _ (settings : Settings) (batch : List Report) (frontier : Frontier) (live : List Report)
    (within : frontier.level ≤ frontier.bits) (at_stage : IsStage settings batch frontier live) where
  abbrev passed : List Report
  passed = live_after settings frontier.level (stage_of live frontier.candidates)

  abbrev totals : List ℕ
  totals = map (total passed) frontier.candidates

  abbrev walked : ℕ
  walked = at_stage.0

  abbrev before : Stage
  before = stage_after settings batch walked

  pub live_is : live_at settings batch frontier.level ≡ passed
  live_is =
      ap (live_at settings batch) at_stage.1 ∙ ap (λ s. s.live) (stage-more settings batch walked)
      ∙ sym (ap (λ l. live_after settings l (stage_of live frontier.candidates)) at_stage.1 ∙ ap (live_after settings (suc walked)) at_stage.2)

  found_is : survivors_at settings batch frontier.level ≡ survivors settings.threshold frontier.candidates totals
  found_is =
      ap (survivors_at settings batch) at_stage.1 ∙ survivors_at-more settings batch walked
      ∙ sym (ap (λ l. survivors settings.threshold frontier.candidates (map (total (live_after settings l (stage_of live frontier.candidates))) frontier.candidates)) at_stage.1
      ∙ ap (λ s. survivors settings.threshold s.candidates (map (total (live_after settings (suc walked) s)) s.candidates)) at_stage.2)

  sent_is : messages_at settings batch frontier.level ≡ level_messages settings frontier.level (stage_of live frontier.candidates)
  unfolding messages_at
  sent_is =
      ap (messages_at settings batch) at_stage.1
      ∙ sym (ap (λ l. level_messages settings l (stage_of live frontier.candidates)) at_stage.1 ∙ ap (level_messages settings (suc walked)) at_stage.2)

  abbrev outcome_is : Outcome
  outcome_is = pruned frontier totals settings.threshold

  pub same_end : ending_here settings batch frontier
      ≡ ending_after (survivors_at settings batch) (λ level. length (live_at settings batch level)) frontier.level outcome_is
  same_end = pruned-ends (survivors_at settings batch) (λ level. length (live_at settings batch level)) frontier within totals settings.threshold found_is

  abbrev here : List Message
  here = level_messages settings frontier.level (stage_of live frontier.candidates)

  last_sent : frontier.level ≡ frontier.bits → messages_here settings batch frontier ≡ here
  unfolding messages_from
  last_sent e =
      let none : frontier.bits - frontier.level ≡ 0 = omega arith in
      ap (λ m. messages_from frontier.cap (survivors_at settings batch) (messages_at settings batch) m frontier.level) none ∙ sent_is

  more_sent : (more : ℕ) → frontier.bits - frontier.level ≡ suc more → messages_here settings batch frontier
      ≡ messages_at settings batch frontier.level ++ (if goes_on frontier.cap (survivors_at settings batch frontier.level)
      then messages_from frontier.cap (survivors_at settings batch) (messages_at settings batch) more (suc frontier.level) else [])
  unfolding messages_from
  more_sent more e = ap (λ m. messages_from frontier.cap (survivors_at settings batch) (messages_at settings batch) m frontier.level) e

  behind : (more : ℕ) → more ≡ frontier.bits - (frontier.level + 1) → (heavy : List Heavy)
      → (if goes_on frontier.cap heavy then messages_from frontier.cap (survivors_at settings batch) (messages_at settings batch) more (suc frontier.level) else [])
      ≡ messages_after settings batch (if goes_on frontier.cap heavy then further (following frontier heavy) else halted frontier heavy)
  behind more e heavy = at heavy
    where
      next : (heavy : List Heavy) → messages_from frontier.cap (survivors_at settings batch) (messages_at settings batch) more (suc frontier.level)
          ≡ messages_after settings batch (further (following frontier heavy))
      next heavy =
          ap (λ m. messages_from frontier.cap (survivors_at settings batch) (messages_at settings batch) m (suc frontier.level)) e
          ∙ ap (λ l. messages_from frontier.cap (survivors_at settings batch) (messages_at settings batch) (frontier.bits - (frontier.level + 1)) l) (sym (add-one frontier.level))

      choose : (b : Bool) (heavy : List Heavy) → [] ≡ messages_after settings batch (halted frontier heavy)
          → (if b then messages_from frontier.cap (survivors_at settings batch) (messages_at settings batch) more (suc frontier.level) else [])
          ≡ messages_after settings batch (if b then further (following frontier heavy) else halted frontier heavy)
      choose true heavy same = next heavy
      choose false heavy same = same

      at : (heavy : List Heavy)
          → (if goes_on frontier.cap heavy then messages_from frontier.cap (survivors_at settings batch) (messages_at settings batch) more (suc frontier.level) else [])
          ≡ messages_after settings batch (if goes_on frontier.cap heavy then further (following frontier heavy) else halted frontier heavy)
      at [] = refl
      at (h ∷ hs) = choose (nat_le (2 * length (h ∷ hs)) frontier.cap) (h ∷ hs) refl

  pub same_messages : messages_here settings batch frontier ≡ here ++ messages_after settings batch outcome_is
  same_messages =
      let found = survivors settings.threshold frontier.candidates totals in
      let rest = if goes_on frontier.cap found then further (following frontier found) else halted frontier found in
      elim (eqb_tells frontier.level frontier.bits) [
        | inl h ↦
            last_sent h.1 ∙ sym (append-nil here) ∙ sym (ap (λ b. here ++ messages_after settings batch (if b then answered found else rest)) h.0)
        | inr h ↦
            more_sent (frontier.bits - (frontier.level + 1)) (omega (arith, h.1))
            ∙ ap (λ ms. ms ++ (if goes_on frontier.cap (survivors_at settings batch frontier.level)
            then messages_from frontier.cap (survivors_at settings batch) (messages_at settings batch) (frontier.bits - (frontier.level + 1)) (suc frontier.level) else [])) sent_is
            ∙ ap (λ heavy. here ++ (if goes_on frontier.cap heavy
            then messages_from frontier.cap (survivors_at settings batch) (messages_at settings batch) (frontier.bits - (frontier.level + 1)) (suc frontier.level) else [])) found_is
            ∙ ap (λ ms. here ++ ms) (behind (frontier.bits - (frontier.level + 1)) refl found)
            ∙ sym (ap (λ b. here ++ messages_after settings batch (if b then answered found else rest)) h.0)
      ]

  -- where the level could not be walked
  pub part_here : (truth : Bool) (t0 t1 : Option Talk) (o : Option End) → o ≡ None → SentPart t0 t1 here → TrulyEnds settings batch frontier truth t0 t1 o
  part_here truth t0 t1 o e h =
      subst (TrulyEnds settings batch frontier truth t0 t1) (sym e)
      (subst (SentPart t0 t1) (sym same_messages) (part_first t0 t1 here (messages_after settings batch outcome_is) h))

  -- where the walk ended at the level
  pub end_here : (truth : Bool) (t0 t1 : Option Talk) (end : End)
      → ending_after (survivors_at settings batch) (λ level. length (live_at settings batch level)) frontier.level outcome_is ≡ end
      → messages_after settings batch outcome_is ≡ [] → IsReady truth t1 → SentMore t0 t1 here → TrulyEnds settings batch frontier truth t0 t1 (Some end)
  end_here truth t0 t1 end e none ready sent =
      (same_end ∙ e, ready, subst (SentMore t0 t1) (sym (same_messages ∙ ap (λ ms. here ++ ms) none ∙ append-nil here)) sent)

  -- where it goes on
  pub goes_here : (truth : Bool) (t0 t1 : Option Talk) (next : Frontier) (still : List Report) → outcome_is ≡ further next → still ≡ passed
      → IsReady truth t1 → SentMore t0 t1 here → TrulyGoes settings batch frontier next still truth t0 t1
  goes_here truth t0 t1 next still e same ready sent =
      let follows = further-follows frontier next totals settings.threshold (sym e) in
      let found = survivors settings.threshold frontier.candidates totals in
      let level : next.level ≡ suc (suc walked) = ap (λ f. f.level) follows.1 ∙ add-one frontier.level ∙ ap (λ l. suc l) at_stage.1 in
      let stage : stage_of still next.candidates ≡ stage_after settings batch (suc walked) =
      ap (λ qs. stage_of still qs) (ap (λ f. f.candidates) follows.1) ∙ ap (λ rs. stage_of rs (children found)) (same ∙ sym live_is)
      ∙ ap (λ hs. stage_of (live_at settings batch frontier.level) (children hs)) (sym found_is)
      ∙ ap (λ l. stage_of (live_at settings batch l) (children (survivors_at settings batch l))) at_stage.1
      ∙ ap (λ rs. stage_of rs (children (survivors_at settings batch (suc walked)))) (ap (λ s. s.live) (stage-more settings batch walked))
      ∙ ap (λ hs. stage_of (live_after settings (suc walked) before) (children hs)) (survivors_at-more settings batch walked)
      ∙ sym (stage-more settings batch walked) in
      record {
        sent = here;
        stage = (suc walked, level, stage);
        ready = ready;
        sent_more = sent;
        same_end = same_end ∙ ap (ending_after (survivors_at settings batch) (λ level. length (live_at settings batch level)) frontier.level) e;
        same_messages = same_messages ∙ ap (λ o. here ++ messages_after settings batch o) e;
      }

-- ---- a step

pub as_here : (P : ℕ → List (List Bool) → List Report → Type 0) (l m : ℕ) (ps qs : List (List Bool)) (rs ss : List Report) → l ≡ m → ps ≡ qs → rs ≡ ss → P l ps rs → P m qs ss
as_here P l m ps qs rs ss e f h p = subst (P m qs) h (subst (λ qs. P m qs rs) f (subst (λ m. P m ps rs) e p))

module _ (settings : Settings) (batch : List Report) (frontier : Frontier) (live : List ℕ) (within : frontier.level ≤ frontier.bits) where
  abbrev reports : List Report
  reports = picked batch live

  module _ (same_cap : frontier.cap ≡ settings.cap) (still totals : List ℕ) (t0 t1 : Option Talk)
      (goes : Passed t0 t1 (GoesOn (whole_level settings frontier.level frontier.candidates (picked batch live)) (picked batch still, totals))) where
    pub step_heard : (step : Step) → IsOutcome frontier batch still (pruned frontier totals settings.threshold) step → StepHeard settings batch frontier live t0 t1 step
    step_heard (Done answer) o =
        passed_end settings frontier reports within same_cap (picked batch still) totals t0 t1 (answer_end answer)
        (λ rest0 rest1. ap (λ x. heard_after settings frontier.level (picked batch still) x rest0 rest1) o.0
        ∙ ap (λ l. ended (done l (length (picked batch still)) answer.heavy)) (sym o.1) ∙ ap (λ n. ended (done answer.levels n answer.heavy)) (sym o.2)) goes
    step_heard (Further next passed) o =
        passed_on settings frontier reports within same_cap (picked batch still) totals t0 t1 next (picked batch passed.items) o.0 (ap (picked batch) o.1) goes

    pub step_stops : (e : PairError) → IsStop (pruned frontier totals settings.threshold) e
        → IfSome (end_of e) (λ end. Passed t0 t1 (EndsSo settings frontier (picked batch live) end))
    step_stops (Cap level wanted) stop =
        passed_end settings frontier reports within same_cap (picked batch still) totals t0 t1 (capped level wanted)
        (λ rest0 rest1. ap (λ x. heard_after settings frontier.level (picked batch still) x rest0 rest1) stop) goes
    step_stops Link stop = absurd stop
    step_stops (PeerMessage level kind at) stop = absurd stop
    step_stops (Views level kind place left right) stop = absurd stop
    step_stops Memory stop = tt

  pub level_stops : (t0 t1 : Option Talk) (e : PairError) → Stops (whole_level settings frontier.level frontier.candidates (picked batch live)) t0 t1 e
      → IfSome (end_of e) (λ end. Passed t0 t1 (EndsSo settings frontier (picked batch live) end))
  level_stops t0 t1 e h = at (end_of e) h
    where
      at : (o : Option End) → IfSome o (λ end. Passed t0 t1 (EndsThere (whole_level settings frontier.level frontier.candidates (picked batch live)) end))
          → IfSome o (λ end. Passed t0 t1 (EndsSo settings frontier (picked batch live) end))
      at None h = tt
      at (Some end) h = passed_map t0 t1 (EndsThere (whole_level settings frontier.level frontier.candidates (picked batch live)) end)
          (EndsSo settings frontier (picked batch live) end) (breaks_here settings frontier (picked batch live) end) h

  module _ (at_stage : IsStage settings batch frontier (picked batch live)) (truth : Bool) (t0 t1 : Option Talk) where
    abbrev passed_now : List Report
    passed_now = live_after settings frontier.level (stage_of (picked batch live) frontier.candidates)

    abbrev sent_now : List Message
    sent_now = level_messages settings frontier.level (stage_of (picked batch live) frontier.candidates)

    pub level_part : (e : PairError) → end_of e ≡ None → SentPart t0 t1 (level_messages settings frontier.level (stage_of (picked batch live) frontier.candidates))
        → TrulyEnds settings batch frontier truth t0 t1 (end_of e)
    level_part e none h = part_here settings batch frontier (picked batch live) within at_stage truth t0 t1 (end_of e) none h

    module _ (still totals : List ℕ) (same : picked batch still ≡ live_after settings frontier.level (stage_of (picked batch live) frontier.candidates))
        (sums : totals ≡ map (total (live_after settings frontier.level (stage_of (picked batch live) frontier.candidates))) frontier.candidates)
        (ready : IsReady truth t1) (sent : SentMore t0 t1 (level_messages settings frontier.level (stage_of (picked batch live) frontier.candidates))) where
      same_outcome : (o : Outcome) → pruned frontier totals settings.threshold ≡ o → pruned frontier (map (total passed_now) frontier.candidates) settings.threshold ≡ o
      same_outcome o e = ap (λ ns. pruned frontier ns settings.threshold) (sym sums) ∙ e

      pub step_true : (step : Step) → IsOutcome frontier batch still (pruned frontier totals settings.threshold) step → StepTrue settings batch frontier truth t0 t1 step
      step_true (Done answer) o =
          let is = same_outcome (answered answer.heavy) o.0 in
          end_here settings batch frontier (picked batch live) within at_stage truth t0 t1 (answer_end answer)
          (ap (ending_after (survivors_at settings batch) (λ level. length (live_at settings batch level)) frontier.level) is
          ∙ ap (λ rs. done frontier.level (length rs) answer.heavy) (live_is settings batch frontier (picked batch live) within at_stage ∙ sym same)
          ∙ ap (λ l. done l (length (picked batch still)) answer.heavy) (sym o.1) ∙ ap (λ n. done answer.levels n answer.heavy) (sym o.2))
          (ap (messages_after settings batch) is) ready sent
      step_true (Further next passed) o =
          goes_here settings batch frontier (picked batch live) within at_stage truth t0 t1 next (picked batch passed.items) (same_outcome (further next) o.0)
          (ap (picked batch) o.1 ∙ same) ready sent

      pub step_part : (e : PairError) → IsStop (pruned frontier totals settings.threshold) e → TrulyEnds settings batch frontier truth t0 t1 (end_of e)
      step_part (Cap level wanted) stop =
          let is = same_outcome (too_many level wanted) stop in
          end_here settings batch frontier (picked batch live) within at_stage truth t0 t1 (capped level wanted)
          (ap (ending_after (survivors_at settings batch) (λ level. length (live_at settings batch level)) frontier.level) is) (ap (messages_after settings batch) is) ready sent
      step_part Link stop = absurd stop
      step_part (PeerMessage level kind at) stop = absurd stop
      step_part (Views level kind place left right) stop = absurd stop
      step_part Memory stop = part_here settings batch frontier (picked batch live) within at_stage truth t0 t1 None refl (part_whole t0 t1 sent_now sent)

-- ---- lengths of the answer

survivors-long : (l t : ℕ) (qs : List (List Bool)) (ns : List ℕ) → AllByRecursion (λ q. length q ≡ l) qs
    → AllByRecursion (λ h. length h.prefix ≡ l) (survivors t qs ns)
survivors-long l t [] ns all = tt
survivors-long l t (q ∷ qs) [] all = tt
survivors-long l t (q ∷ qs) (n ∷ ns) all = at (nat_le t n) (survivors-long l t qs ns all.1)
  where
    at : (b : Bool) → AllByRecursion (λ h. length h.prefix ≡ l) (survivors t qs ns)
        → AllByRecursion (λ h. length h.prefix ≡ l) (if b then record { prefix = q; count = n } ∷ survivors t qs ns else survivors t qs ns)
    at true rest = (all.0, rest)
    at false rest = rest

answered-found : (frontier : Frontier) (found heavy : List Heavy) → answered heavy ≡ (if goes_on frontier.cap found then further (following frontier found) else halted frontier found) → heavy ≡ []
answered-found frontier [] heavy e = cc
answered-found frontier (h ∷ hs) heavy e = at (nat_le (2 * length (h ∷ hs)) frontier.cap) e
  where
    at : (b : Bool) → answered heavy ≡ (if b then further (following frontier (h ∷ hs)) else halted frontier (h ∷ hs)) → heavy ≡ []
    at true e = cc
    at false e = cc

pub answered_long : (frontier : Frontier) (totals : List ℕ) (threshold : ℕ) (heavy : List Heavy) → All (λ q. length q ≡ frontier.level) frontier.candidates
    → answered heavy ≡ pruned frontier totals threshold → All (λ h. length h.prefix ≡ frontier.bits) heavy
answered_long frontier totals threshold heavy long e =
    let found = survivors threshold frontier.candidates totals in
    let rest = if goes_on frontier.cap found then further (following frontier found) else halted frontier found in
    let all = All-from_recursion (λ h. length h.prefix ≡ frontier.level) found
    (survivors-long frontier.level threshold frontier.candidates totals (recursion_from_All (λ q. length q ≡ frontier.level) frontier.candidates long)) in
    elim (eqb_tells frontier.level frontier.bits) [
      | inl h ↦
          let is : heavy ≡ found = answered_same heavy found (e ∙ ap (λ b. if b then answered found else rest) h.0) in
          subst (All (λ h. length h.prefix ≡ frontier.bits)) (sym is) (subst (λ n. All (λ h. length h.prefix ≡ n) found) h.1 all)
      | inr h ↦
          subst (All (λ h. length h.prefix ≡ frontier.bits)) (sym (answered-found frontier found heavy (e ∙ ap (λ b. if b then answered found else rest) h.0)))
          (All-from_recursion (λ h. length h.prefix ≡ frontier.bits) [] tt)
    ]
  where
    answered_same : (xs ys : List Heavy) → answered xs ≡ answered ys → xs ≡ ys
    answered_same xs ys e = cc

-- ---- the whole walk

module _ (settings : Settings) (batch : List Report) where
  start : IsStage settings batch (first_frontier settings.bits settings.cap) batch
  unfolding stage_after
  start = (0, refl, refl)

  pub truly_whole : (f : Frontier) (rs : List Report) (truth : Bool) (t0 t1 : Option Talk) (o : Option End) → f ≡ first_frontier settings.bits settings.cap → rs ≡ batch
      → (IsStage settings batch f rs → TrulyEnds settings batch f truth t0 t1 o) → TrulyEnds settings batch (first_frontier settings.bits settings.cap) truth t0 t1 o
  truly_whole f rs truth t0 t1 o e is h =
      subst (λ f. TrulyEnds settings batch f truth t0 t1 o) e
      (h (subst (λ f. IsStage settings batch f rs) (sym e) (subst (IsStage settings batch (first_frontier settings.bits settings.cap)) (sym is) start)))

-- ---- a step, and the walk behind it

goes_ends : (settings : Settings) (frontier next : Frontier) (live passed : List Report) (end : End) (s t : List Message) (z w o p : List ℕ)
    → GoesTo settings frontier live next passed s z o → EndsSo settings next passed end t w p → EndsSo settings frontier live end (s ++ t) (z ++ w) (o ++ p)
goes_ends settings frontier next live passed end s t z w o p first second = first w p ∙ ap (preceded s) second

pub passed_ends : (settings : Settings) (frontier next : Frontier) (live passed : List Report) (end : End) (t0 t1 t2 : Option Talk)
    → Passed t0 t1 (GoesTo settings frontier live next passed) → Passed t1 t2 (EndsSo settings next passed end) → Passed t0 t2 (EndsSo settings frontier live end)
passed_ends settings frontier next live passed end t0 t1 t2 first second =
    passed_then t0 t1 t2 (GoesTo settings frontier live next passed) (EndsSo settings next passed end) (EndsSo settings frontier live end)
    (goes_ends settings frontier next live passed end) first second

pub passed_stops : (settings : Settings) (frontier next : Frontier) (live passed : List Report) (e : PairError) (t0 t1 t2 : Option Talk)
    → Passed t0 t1 (GoesTo settings frontier live next passed) → IfSome (end_of e) (λ end. Passed t1 t2 (EndsSo settings next passed end))
    → IfSome (end_of e) (λ end. Passed t0 t2 (EndsSo settings frontier live end))
passed_stops settings frontier next live passed e t0 t1 t2 first second = at (end_of e) second
  where
    at : (o : Option End) → IfSome o (λ end. Passed t1 t2 (EndsSo settings next passed end)) → IfSome o (λ end. Passed t0 t2 (EndsSo settings frontier live end))
    at None h = tt
    at (Some end) h = passed_ends settings frontier next live passed end t0 t1 t2 first h

pub truly_behind : (settings : Settings) (batch : List Report) (frontier next : Frontier) (passed : List Report) (truth1 truth2 : Bool) (t0 t1 t2 : Option Talk) (o : Option End)
    → TrulyGoes settings batch frontier next passed truth1 t0 t1 → (IsReady truth1 t1 → IsStage settings batch next passed → TrulyEnds settings batch next truth2 t1 t2 o)
    → TrulyEnds settings batch frontier truth2 t0 t2 o
truly_behind settings batch frontier next passed truth1 truth2 t0 t1 t2 o go rest = at o (rest go.ready go.stage)
  where
    at : (o : Option End) → TrulyEnds settings batch next truth2 t1 t2 o → TrulyEnds settings batch frontier truth2 t0 t2 o
    at None h = subst (SentPart t0 t2) (sym go.same_messages) (part_second t0 t1 t2 go.sent (messages_here settings batch next) go.sent_more h)
    at (Some end) h =
        (go.same_end ∙ h.0, h.1, subst (SentMore t0 t2) (sym go.same_messages) (sent_then t0 t1 t2 go.sent (messages_here settings batch next) go.sent_more h.2))
