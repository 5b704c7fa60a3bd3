use Rattle.std.proofs.Common.{sym}
use Rattle.prefix_bits.specs.StoredLaws.{length-stored_bits}
use Rattle.prefix_bits.proofs.prefix.Prefix.len.Goals as goal

pub returns-clause-count : goal.returns-clause-count
returns-clause-count c = rw (← c.self.view_is) (sym (length-stored_bits c.self.inside.words c.self.inside.len))
