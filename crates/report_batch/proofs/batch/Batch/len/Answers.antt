use Rattle.std.proofs.Common.{sym, ◌∙◌, ap, length}
use Rattle.report_batch.proofs.Lists.{length-reports_of}
use Rattle.report_batch.proofs.batch.Batch.len.Goals as goal

pub returns : goal.returns
returns c =
    c.len.ensures.count
    ∙ sym (length-reports_of c.self.inside.ids c.self.inside.zero c.self.inside.one c.self.invariant.named0 c.self.invariant.named1)
    ∙ ap length c.self.view_is
