use Rattle.std.proofs.Common.{sym, ◌∙◌, ap, map}
use Rattle.definitions.specs.Evaluation.{Share}
use Rattle.walk_definitions.specs.Reports.{Report, held}
use Rattle.report_batch.proofs.Lists.{ids-reports_of, held0-reports_of, held1-reports_of}
use Rattle.report_batch.proofs.batch.Batch.shares.Goals as goal

pub returns-in-Zero-clause-shares : goal.returns-in-Zero-clause-shares
returns-in-Zero-clause-shares c =
    c.as_slice.ensures.same
    ∙ sym (held0-reports_of c.self.inside.ids c.self.inside.zero c.self.inside.one c.self.invariant.named0 c.self.invariant.named1)
    ∙ ap (map (λ (r : Report). r.held0)) c.self.view_is
    ∙ ap (λ side. map (λ (r : Report). held r side) c.args.self.now) (sym c.in-Zero.is)

pub returns-in-Zero-clause-named : goal.returns-in-Zero-clause-named
returns-in-Zero-clause-named c =
    ap (map (λ (s : Share). s.id)) c.as_slice.ensures.same
    ∙ c.self.invariant.named0
    ∙ sym (ids-reports_of c.self.inside.ids c.self.inside.zero c.self.inside.one c.self.invariant.named0 c.self.invariant.named1)
    ∙ ap (map (λ (r : Report). r.id)) c.self.view_is

pub returns-in-One-clause-shares : goal.returns-in-One-clause-shares
returns-in-One-clause-shares c =
    c.as_slice-in-One.ensures.same
    ∙ sym (held1-reports_of c.self.inside.ids c.self.inside.zero c.self.inside.one c.self.invariant.named0 c.self.invariant.named1)
    ∙ ap (map (λ (r : Report). r.held1)) c.self.view_is
    ∙ ap (λ side. map (λ (r : Report). held r side) c.args.self.now) (sym c.in-One.is)

pub returns-in-One-clause-named : goal.returns-in-One-clause-named
returns-in-One-clause-named c =
    ap (map (λ (s : Share). s.id)) c.as_slice-in-One.ensures.same
    ∙ c.self.invariant.named1
    ∙ sym (ids-reports_of c.self.inside.ids c.self.inside.zero c.self.inside.one c.self.invariant.named0 c.self.invariant.named1)
    ∙ ap (map (λ (r : Report). r.id)) c.self.view_is
