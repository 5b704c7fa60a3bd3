use Rattle.report_batch.proofs.Given.{all_levels}
use Rattle.report_batch.proofs.laws.batches_keep_levels.Goals as goal

pub returns : goal.returns
returns c = record { levels = all_levels }
