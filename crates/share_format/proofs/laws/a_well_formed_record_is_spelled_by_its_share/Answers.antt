use Rattle.share_format.proofs.RecordLaws.{spelling_law}
use Rattle.share_format.proofs.laws.a_well_formed_record_is_spelled_by_its_share.Goals as goal

pub returns : goal.returns
returns c = record { law = spelling_law }
