use Rattle.walk_definitions.proofs.BatchLaws.{batch_law}
use Rattle.report_collection.proofs.Order.{same_shares}
use Rattle.report_collection.proofs.laws.a_batch_knows_no_order.Goals as goal

pub returns : goal.returns
returns c = record {
  order = λ shares0 others0 shares1 others1 p q. batch_law shares0 others0 shares1 others1 (same_shares shares0 others0 p) (same_shares shares1 others1 q);
}
