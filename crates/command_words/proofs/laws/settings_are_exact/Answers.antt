use Rattle.command_words.proofs.Exact.{exact_law}
use Rattle.command_words.proofs.laws.settings_are_exact.Goals as goal

pub returns : goal.returns
returns c = record { exact = exact_law }
