use Rattle.walk_laws.proofs.Strings.{heavy_strings_law}
use Rattle.walk_laws.proofs.laws.heavy_strings_are_exact.Goals as goal

pub returns : goal.returns
returns c = record { strings = heavy_strings_law }
