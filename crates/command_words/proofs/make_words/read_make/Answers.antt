use Rattle.std.proofs.Common.{◌≡◌, true, sym, subst}
use Rattle.clap.specs.Words.{is_simple_and_free}
use Rattle.command_words.proofs.Simple.{make_simple}
use Rattle.command_words.proofs.make_words.read_make.Goals as goal

pub found-requires : goal.found-requires
found-requires c = record { simple = subst (λ app. is_simple_and_free app ≡ true) (sym c.in_ok-make_command.ensures.app) make_simple }
