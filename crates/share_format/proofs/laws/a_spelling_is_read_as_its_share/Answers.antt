use Rattle.share_format.proofs.RecordLaws.{reading_law}
use Rattle.share_format.proofs.laws.a_spelling_is_read_as_its_share.Goals as goal

pub returns : goal.returns
returns c = record { law = reading_law }
