-- How a run over a true link ends.
use Rattle.std.proofs.Common.{length, ap}
use Rattle.pair_run.proofs.Keeping.{walk_own}
use Rattle.file_run.specs.Answers.{ended}
use Rattle.file_run.specs.Beginnings.{refused_for, batch_for}
use Rattle.poplar_top.specs.RunOutcomes.{answered}
use Rattle.poplar_top.specs.Laws.{TrueRunsAreExact}

pub true_law : TrueRunsAreExact
true_law = record {
  answer = λ settings both levels passed heavy is. ap (λ end. answered (ended (refused_for both) (length (batch_for both)) end)) is;
  cap = λ settings both level wanted is. ap (λ end. answered (ended (refused_for both) (length (batch_for both)) end)) is;
  no_other = walk_own;
}
