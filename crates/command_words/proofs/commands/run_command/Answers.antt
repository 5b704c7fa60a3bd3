use Rattle.std.proofs.Common.{ap, ap₂, fold, ◌∙◌}
use Rattle.std.proofs.lemmas.Result.{IfOk-weaker}
use Rattle.clap.specs.Words.{with_rule}
use Rattle.command_words.specs.Commands.{run_app, walk_rules, with_argument}
use Rattle.command_words.proofs.commands.run_command.Goals as goal

pub returns : goal.returns
unfolding run_app
returns c = record {
  app = IfOk-weaker c.with_walk_options.result _ _ (λ made h.
      h ∙ ap (λ app. fold with_rule app walk_rules) (c.in_ok-command.ensures.app ∙ ap₂ (fold with_argument) c.plain_command.ensures.app c.as_slice.ensures))
      c.with_walk_options.ensures.app;
}
