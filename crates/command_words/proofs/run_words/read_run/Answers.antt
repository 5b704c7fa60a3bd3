use Rattle.std.proofs.Common.{◌≡◌, true, sym, subst}
use Rattle.clap.specs.Words.{is_simple_and_free}
use Rattle.command_words.proofs.Simple.{run_simple}
use Rattle.command_words.proofs.run_words.read_run.Goals as goal

pub found-requires : goal.found-requires
found-requires c = record { simple = subst (λ app. is_simple_and_free app ≡ true) (sym c.in_ok-run_command.ensures.app) run_simple }
