use Rattle.std.proofs.Common.{◌≡◌, true, sym, subst}
use Rattle.clap.specs.Words.{is_simple_and_free}
use Rattle.command_words.proofs.Simple.{find_simple}
use Rattle.command_words.proofs.find_words.read_find.Goals as goal

pub found-requires : goal.found-requires
found-requires c = record { simple = subst (λ app. is_simple_and_free app ≡ true) (sym c.in_ok-find_command.ensures.app) find_simple }
