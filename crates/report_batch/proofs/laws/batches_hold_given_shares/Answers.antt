use Rattle.report_batch.proofs.Given.{given}
use Rattle.report_batch.proofs.laws.batches_hold_given_shares.Goals as goal

pub returns : goal.returns
returns c = record { given = given }
