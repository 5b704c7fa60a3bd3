use Rattle.clap.specs.Words.{app_of, rule_of}
use Rattle.command_words.proofs.CrateSteps.{one_more}
use Rattle.command_words.proofs.arguments.with_arguments.Goals as goal

pub loop-argument-preserved : goal.loop-argument-preserved
loop-argument-preserved c = record {
  app = one_more (app_of c.args.command) (app_of c.loop-argument.command) (app_of c.in_ok-command.command) (rule_of c.crate_argument.result)
      c.args.arguments.now c.loop-argument.argument-index _ c.loop-argument-test.true c.loop-argument.invariant.app
      (c.in_ok-command.ensures.shape c.crate_argument.ensures.own) c.crate_argument.ensures.rule;
}
