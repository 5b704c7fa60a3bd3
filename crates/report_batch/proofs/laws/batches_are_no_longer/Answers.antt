use Rattle.report_batch.proofs.Sizes.{size}
use Rattle.report_batch.proofs.laws.batches_are_no_longer.Goals as goal

pub returns : goal.returns
returns c = record { size = size }
