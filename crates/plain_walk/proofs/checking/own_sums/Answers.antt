use Rattle.std.proofs.Common.{ap}
use Rattle.plain_walk.proofs.LevelSteps.{own_sums-is}
use Rattle.plain_walk.proofs.checking.own_sums.Goals as goal

pub returns : goal.returns
returns c = record {
  value =
      own_sums-is c.args.level c.args.candidates.now c.args.side c.args.settings.now c.args.report.now
      c.settings.inside.verify c.report.inside.id c.of-key.result c.share.inside.corr c.held-share.result.now c.partial_sums-partial.result c.masked.result c.correlation.result
      (ap (λ s. s.verify) c.settings.view_is) (ap (λ r. r.id) c.report.view_is) c.of-key.ensures.value c.held-share.ensures.value
      (ap (λ s. s.corr) c.share.view_is) c.partial_sums-partial.ensures.value c.correlation.ensures.value c.masked.ensures.value;
}
