use Rattle.std.proofs.Common.{map}
use Rattle.std.specs.String.{string_bytes}
use Rattle.clap.specs.Words.{app_of}
use Rattle.command_words.proofs.CrateSteps.{found_ok, found_not}
use Rattle.command_words.proofs.reading.found.Goals as goal

pub returns-in-Ok : goal.returns-in-Ok
returns-in-Ok c = record { reads = found_ok (app_of c.args.command) (map string_bytes c.args.words.now) c.in-Ok.matches c.requires.simple c.in-Ok.ensures.kinds c.in-Ok.ensures.matches }

pub returns-in-Err : goal.returns-in-Err
returns-in-Err c =
    record { reads = found_not (app_of c.args.command) (map string_bytes c.args.words.now) c.in-Err.error c.error_of.result c.requires.simple c.in-Err.ensures.kinds c.error_of.ensures.memory }
