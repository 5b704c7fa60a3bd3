use Rattle.std.proofs.Common.{◌≡◌, fold, take}
use Rattle.clap.specs.Words.{app_of}
use Rattle.command_words.specs.Commands.{with_argument}
use Rattle.command_words.proofs.arguments.with_arguments.Given as goal

abbrev pub invariant-loop-argument : goal.invariant-loop-argument
invariant-loop-argument l = record { app : app_of l.command ≡ fold with_argument (app_of l.fn.command) (take l.argument-index l.arguments) }
