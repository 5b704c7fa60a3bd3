use Rattle.std.proofs.Common.{◌≡◌, true, sym, subst}
use Rattle.clap.specs.Words.{is_simple_and_free}
use Rattle.command_words.proofs.Simple.{gen_simple}
use Rattle.command_words.proofs.gen_words.read_gen.Goals as goal

pub found-requires : goal.found-requires
found-requires c = record { simple = subst (λ app. is_simple_and_free app ≡ true) (sym c.in_ok-gen_command.ensures.app) gen_simple }
