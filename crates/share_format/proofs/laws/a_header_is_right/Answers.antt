use Rattle.share_format.proofs.HeaderSteps.{header_law}
use Rattle.share_format.proofs.laws.a_header_is_right.Goals as goal

pub returns : goal.returns
returns c = record { law = header_law }
