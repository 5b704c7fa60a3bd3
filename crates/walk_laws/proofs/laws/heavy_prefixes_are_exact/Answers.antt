use Rattle.walk_laws.proofs.Strings.{heavy_prefixes_law}
use Rattle.walk_laws.proofs.laws.heavy_prefixes_are_exact.Goals as goal

pub returns : goal.returns
returns c = record { prefixes = heavy_prefixes_law }
