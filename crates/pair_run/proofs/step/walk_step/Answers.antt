use Rattle.std.proofs.Common.{◌≡◌, ◌≤◌, ap, subst}
use Rattle.std.specs.Prelude.{map, IfSome}
use Rattle.walk_definitions.specs.Walk.{total, live_after}
use Rattle.walk_definitions.specs.Messages.{level_messages}
use Rattle.frontier_walk.specs.Outcomes.{pruned}
use Rattle.pair_run.specs.Failures.{end_of, Stops}
use Rattle.pair_run.specs.Levels.{stage_of}
use Rattle.pair_run.specs.Parts.{GoesOn, whole_level}
use Rattle.pair_run.specs.Places.{picked}
use Rattle.pair_run.specs.Rules.{rules_of}
use Rattle.pair_run.specs.Steps.{IsOutcome, IsStop, StepHeard, StepTrue}
use Rattle.shelf_io.specs.Seen.{IsReady}
use Rattle.pair_run.specs.Talking.{Passed, SentMore, SentPart}
use Rattle.pair_run.specs.Walks.{IsStage, EndsSo, TrulyEnds}
use Rattle.pair_run.proofs.Followed.{err_same, if_ok, if_err}
use Rattle.pair_run.proofs.WalkSteps.{as_here, step_heard, step_stops, level_stops, level_part, step_true, step_part}
use Rattle.pair_run.proofs.step.walk_step.Goals as goal

pub returns-in_err-walked-clause-stops : goal.returns-in_err-walked-clause-stops
returns-in_err-walked-clause-stops g c =
    let rules = rules_of c.args.settings.now in
    let frontier = c.args.frontier in
    let batch = c.args.batch.now in
    let live = c.args.live.items in
    let talk0 = g.K.Link.talk c.args.link.now in
    let talk1 = g.K.Link.talk c.walk_level.new.link in
    let within : frontier.level ≤ frontier.bits = subst (λ l. l ≤ frontier.bits) c.level.ensures.value c.level.ensures.last.0 in
    let same = ap (picked batch) c.deref.ensures.value in
    err_same c.from_residual.result c.in_err-walked.field-0.0 (λ e. IfSome (end_of e) (λ end. Passed talk0 talk1 (EndsSo rules frontier (picked batch live) end)))
    c.from_residual.ensures
    (level_stops rules batch frontier live within talk0 talk1 c.in_err-walked.field-0.0
    (as_here (λ l qs rs. Stops (whole_level rules l qs rs) talk0 talk1 c.in_err-walked.field-0.0) c.level.result frontier.level
    c.candidates.result.now frontier.candidates (picked batch c.deref.result.now) (picked batch live) c.level.ensures.value c.candidates.ensures.value same c.in_err-walked.ensures.stops))

pub returns-in_err-walked-clause-partly : goal.returns-in_err-walked-clause-partly
returns-in_err-walked-clause-partly g c =
    let rules = rules_of c.args.settings.now in
    let frontier = c.args.frontier in
    let batch = c.args.batch.now in
    let live = c.args.live.items in
    let talk0 = g.K.Link.talk c.args.link.now in
    let talk1 = g.K.Link.talk c.walk_level.new.link in
    let within : frontier.level ≤ frontier.bits = subst (λ l. l ≤ frontier.bits) c.level.ensures.value c.level.ensures.last.0 in
    let same = ap (picked batch) c.deref.ensures.value in
    let truth = g.K.Link.is_true c.walk_level.new.link in
    err_same c.from_residual.result c.in_err-walked.field-0.0
    (λ e. IsReady (g.K.Link.is_true c.args.link.now) talk0 → IsStage rules batch frontier (picked batch live) → TrulyEnds rules batch frontier truth talk0 talk1 (end_of e))
    c.from_residual.ensures
    (λ ready at_stage. let h = c.in_err-walked.ensures.partly ready in
    level_part rules batch frontier live within at_stage truth talk0 talk1 c.in_err-walked.field-0.0 h.0
    (as_here (λ l qs rs. SentPart talk0 talk1 (level_messages rules l (stage_of rs qs))) c.level.result frontier.level
    c.candidates.result.now frontier.candidates (picked batch c.deref.result.now) (picked batch live) c.level.ensures.value c.candidates.ensures.value same h.1))

pub returns-clause-heard : goal.returns-clause-heard
returns-clause-heard g c =
    let rules = rules_of c.args.settings.now in
    let frontier = c.args.frontier in
    let batch = c.args.batch.now in
    let live = c.args.live.items in
    let talk0 = g.K.Link.talk c.args.link.now in
    let talk1 = g.K.Link.talk c.walk_level.new.link in
    let within : frontier.level ≤ frontier.bits = subst (λ l. l ≤ frontier.bits) c.level.ensures.value c.level.ensures.last.0 in
    let same = ap (picked batch) c.deref.ensures.value in
    let still = c.in_ok-walked.walked.live.items in
    let totals = c.in_ok-walked.walked.totals.items in
    let goes = as_here (λ l qs rs. Passed talk0 talk1 (GoesOn (whole_level rules l qs rs) (picked batch still, totals))) c.level.result frontier.level
    c.candidates.result.now frontier.candidates (picked batch c.deref.result.now) (picked batch live) c.level.ensures.value c.candidates.ensures.value same c.in_ok-walked.ensures.goes in
    if_ok c.pruned_step.result (IsOutcome frontier batch still (pruned frontier totals rules.threshold)) (StepHeard rules batch frontier live talk0 talk1)
    (λ step o. step_heard rules batch frontier live within c.requires.cap still totals talk0 talk1 goes step o) c.pruned_step.ensures.outcome

pub returns-clause-stops : goal.returns-clause-stops
returns-clause-stops g c =
    let rules = rules_of c.args.settings.now in
    let frontier = c.args.frontier in
    let batch = c.args.batch.now in
    let live = c.args.live.items in
    let talk0 = g.K.Link.talk c.args.link.now in
    let talk1 = g.K.Link.talk c.walk_level.new.link in
    let within : frontier.level ≤ frontier.bits = subst (λ l. l ≤ frontier.bits) c.level.ensures.value c.level.ensures.last.0 in
    let same = ap (picked batch) c.deref.ensures.value in
    let still = c.in_ok-walked.walked.live.items in
    let totals = c.in_ok-walked.walked.totals.items in
    let goes = as_here (λ l qs rs. Passed talk0 talk1 (GoesOn (whole_level rules l qs rs) (picked batch still, totals))) c.level.result frontier.level
    c.candidates.result.now frontier.candidates (picked batch c.deref.result.now) (picked batch live) c.level.ensures.value c.candidates.ensures.value same c.in_ok-walked.ensures.goes in
    if_err c.pruned_step.result (IsStop (pruned frontier totals rules.threshold)) (λ e. IfSome (end_of e) (λ end. Passed talk0 talk1 (EndsSo rules frontier (picked batch live) end)))
    (λ e o. step_stops rules batch frontier live within c.requires.cap still totals talk0 talk1 goes e o) c.pruned_step.ensures.cause

pub returns-clause-truly : goal.returns-clause-truly
returns-clause-truly g c =
    let rules = rules_of c.args.settings.now in
    let frontier = c.args.frontier in
    let batch = c.args.batch.now in
    let live = c.args.live.items in
    let talk0 = g.K.Link.talk c.args.link.now in
    let talk1 = g.K.Link.talk c.walk_level.new.link in
    let within : frontier.level ≤ frontier.bits = subst (λ l. l ≤ frontier.bits) c.level.ensures.value c.level.ensures.last.0 in
    let same = ap (picked batch) c.deref.ensures.value in
    let truth = g.K.Link.is_true c.walk_level.new.link in
    let still = c.in_ok-walked.walked.live.items in
    let totals = c.in_ok-walked.walked.totals.items in
    if_ok c.pruned_step.result (IsOutcome frontier batch still (pruned frontier totals rules.threshold))
    (λ step. IsReady (g.K.Link.is_true c.args.link.now) talk0 → IsStage rules batch frontier (picked batch live) → StepTrue rules batch frontier truth talk0 talk1 step)
    (λ step o ready at_stage.
    let true_level = as_here (λ l qs rs. (picked batch still ≡ live_after rules l (stage_of rs qs)) × (totals ≡ map (total (live_after rules l (stage_of rs qs))) qs)
    × IsReady truth talk1 × SentMore talk0 talk1 (level_messages rules l (stage_of rs qs))) c.level.result frontier.level
    c.candidates.result.now frontier.candidates (picked batch c.deref.result.now) (picked batch live) c.level.ensures.value c.candidates.ensures.value same
    (c.in_ok-walked.ensures.truly ready) in
    step_true rules batch frontier live within at_stage truth talk0 talk1 still totals true_level.0 true_level.1 true_level.2 true_level.3 step o) c.pruned_step.ensures.outcome

pub returns-clause-partly : goal.returns-clause-partly
returns-clause-partly g c =
    let rules = rules_of c.args.settings.now in
    let frontier = c.args.frontier in
    let batch = c.args.batch.now in
    let live = c.args.live.items in
    let talk0 = g.K.Link.talk c.args.link.now in
    let talk1 = g.K.Link.talk c.walk_level.new.link in
    let within : frontier.level ≤ frontier.bits = subst (λ l. l ≤ frontier.bits) c.level.ensures.value c.level.ensures.last.0 in
    let same = ap (picked batch) c.deref.ensures.value in
    let truth = g.K.Link.is_true c.walk_level.new.link in
    let still = c.in_ok-walked.walked.live.items in
    let totals = c.in_ok-walked.walked.totals.items in
    if_err c.pruned_step.result (IsStop (pruned frontier totals rules.threshold))
    (λ e. IsReady (g.K.Link.is_true c.args.link.now) talk0 → IsStage rules batch frontier (picked batch live) → TrulyEnds rules batch frontier truth talk0 talk1 (end_of e))
    (λ e o ready at_stage.
    let true_level = as_here (λ l qs rs. (picked batch still ≡ live_after rules l (stage_of rs qs)) × (totals ≡ map (total (live_after rules l (stage_of rs qs))) qs)
    × IsReady truth talk1 × SentMore talk0 talk1 (level_messages rules l (stage_of rs qs))) c.level.result frontier.level
    c.candidates.result.now frontier.candidates (picked batch c.deref.result.now) (picked batch live) c.level.ensures.value c.candidates.ensures.value same
    (c.in_ok-walked.ensures.truly ready) in
    step_part rules batch frontier live within at_stage truth talk0 talk1 still totals true_level.0 true_level.1 true_level.2 true_level.3 e o) c.pruned_step.ensures.cause
