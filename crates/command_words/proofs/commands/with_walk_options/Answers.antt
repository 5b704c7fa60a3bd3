use Rattle.std.proofs.Common.{refl}
use Rattle.clap.specs.Words.{app_of}
use Rattle.command_words.proofs.CrateSteps.{given}
use Rattle.command_words.proofs.commands.with_walk_options.Goals as goal

pub returns : goal.returns
returns c =
    record { app = given c.with_arguments.result (app_of c.args.command) (app_of c.args.command) c.as_slice.result.now _ refl c.as_slice.ensures c.with_arguments.ensures.app }
