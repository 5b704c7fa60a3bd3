use Rattle.std.proofs.Common.{sym, ◌∙◌, ap, map}
use Rattle.walk_definitions.specs.Reports.{Report}
use Rattle.report_batch.proofs.Lists.{ids-reports_of}
use Rattle.report_batch.proofs.batch.Batch.ids.Goals as goal

pub returns-clause-ids : goal.returns-clause-ids
returns-clause-ids c =
    c.as_slice.ensures.same
    ∙ sym (ids-reports_of c.self.inside.ids c.self.inside.zero c.self.inside.one c.self.invariant.named0 c.self.invariant.named1)
    ∙ ap (map (λ (r : Report). r.id)) c.self.view_is
