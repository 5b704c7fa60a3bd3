use Rattle.share_format.proofs.WholeLaws.{file_law}
use Rattle.share_format.proofs.laws.a_file_of_shares_is_read_as_them.Goals as goal

pub returns : goal.returns
returns c = record { law = file_law }
