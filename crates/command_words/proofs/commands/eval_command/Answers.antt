use Rattle.std.proofs.Common.{codes}
use Rattle.clap.specs.Words.{app_of}
use Rattle.command_words.specs.Commands.{eval_app, plain_app}
use Rattle.command_words.proofs.CrateSteps.{given}
use Rattle.command_words.proofs.commands.eval_command.Goals as goal

pub returns : goal.returns
unfolding eval_app
returns c =
    record { app = given c.with_arguments.result (app_of c.plain_command.result) (plain_app (codes "eval")) c.as_slice.result.now _ c.plain_command.ensures.app c.as_slice.ensures c.with_arguments.ensures.app }
