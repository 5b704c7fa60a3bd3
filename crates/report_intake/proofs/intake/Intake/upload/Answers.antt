use Rattle.std.proofs.Common.{rules, ◌≡◌}
use Rattle.report_intake.proofs.Lists.{nothing_new}
use Rattle.report_intake.proofs.intake.Intake.upload.Goals as goal

pub returns-in-Err-clause-unchanged : goal.returns-in-Err-clause-unchanged
returns-in-Err-clause-unchanged g c =
    let same : c.enter-outcome.new.state ≡ c.take.result.0 = search rules in
    record {
      lock = search rules;
      number = search rules;
      own = search (rules, nothing_new c.args.pass.own c.take.result.0 c.enter-outcome.new.state same);
      seen = search rules;
    }
