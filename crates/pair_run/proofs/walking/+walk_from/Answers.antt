use Rattle.std.proofs.Common.{subst}
use Rattle.pair_run.specs.Keeps.{end_reached}
use Rattle.pair_run.specs.Places.{picked}
use Rattle.pair_run.specs.Rules.{rules_of}
use Rattle.pair_run.specs.Steps.{StepTrue}
use Rattle.pair_run.proofs.WalkSteps.{truly_behind}
use Rattle.pair_run.proofs.walking.+walk_from.Goals as goal

pub returns-in-Further-clause-truly : goal.returns-in-Further-clause-truly
returns-in-Further-clause-truly g t c = λ ready at_stage.
    let link = g.K.Link in
    let rules = rules_of c.args.settings.now in
    let batch = c.args.batch.now in
    let truth1 = link.is_true c.walk_step.new.link in
    let talk0 = link.talk c.args.link.now in
    let talk1 = link.talk c.walk_step.new.link in
    truly_behind rules batch c.args.frontier c.in-Further.next (picked batch c.in-Further.passed.items) truth1 (link.is_true c.walk_from.new.link)
    talk0 talk1 (link.talk c.walk_from.new.link) (end_reached c.walk_from.result)
    (subst (λ step. StepTrue rules batch c.args.frontier truth1 talk0 talk1 step) c.in-Further.is (c.in_ok-answer.ensures.truly ready at_stage))
    c.walk_from.ensures.truly
