-- How a search over a true link ends.
use Rattle.std.proofs.Common.{◌*◌, ap, arith, length}
use Rattle.walk_laws.proofs.Ends.{ending_law}
use Rattle.walk_definitions.specs.Heavy.{heavy}
use Rattle.pair_shares.proofs.MadeWalk.{walk_law}
use Rattle.file_find.specs.Answers.{ended}
use Rattle.file_find.specs.Walks.{settings_for}
use Rattle.poplar_top.specs.FindOutcomes.{search_answered}
use Rattle.poplar_top.specs.Laws.{TrueSearchesAreExact}

pub search_law : TrueSearchesAreExact
search_law = record {
  ends = λ text rules strings width threshold few all. ap (λ end. search_answered (ended text (length strings) end))
      (walk_law (settings_for rules) rules.master rules.tag strings (omega arith) threshold few all).ends;
  once = λ rules strings width. ending_law (8 * rules.width) rules.cap (λ level. heavy level strings rules.threshold) (λ level. length strings) (omega arith);
}
