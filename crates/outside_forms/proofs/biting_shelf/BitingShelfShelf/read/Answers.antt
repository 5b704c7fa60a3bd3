use Rattle.std.proofs.Common.{rules}
use Rattle.outside_forms.proofs.PartLaws.{rest_read}
use Rattle.outside_forms.proofs.biting_shelf.BitingShelfShelf.read.Goals as goal

pub returns-clause-rest : goal.returns-clause-rest
returns-clause-rest c = rest_read c.read.result c.min-n.result c.read.new.into c.args.into.now (search rules) c.read.ensures.within c.read.ensures.rest
