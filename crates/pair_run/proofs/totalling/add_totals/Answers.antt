use Rattle.std.proofs.Common.{◌≡◌, ◌∙◌, None, subst}
use Rattle.std.specs.Prelude.{List, ℕ, map, IfErr}
use Rattle.definitions.specs.declared.Side.TheVariants.{One}
use Rattle.walk_definitions.specs.Walk.{own_total}
use Rattle.walk_definitions.specs.Messages.{both_send}
use Rattle.shelf_io.specs.Seen.{link_seen, IsTrueAndIdle}
use Rattle.pair_run.specs.Failures.{end_of}
use Rattle.pair_run.specs.Places.{picked}
use Rattle.pair_run.specs.Talking.{SentPart}
use Rattle.pair_run.proofs.totalling.add_totals.Goals as goal

pub returns-clause-partly : goal.returns-clause-partly
returns-clause-partly g c =
    let talk0 = g.K.Link.talk c.args.link.now in
    let talk1 = g.K.Link.talk c.agreed_sums.new.link in
    let sent = λ (own0 own1 : List ℕ). IfErr c.agreed_sums.result (λ e. IsTrueAndIdle (link_seen g.K.Link c.args.link.now)
    → (end_of e ≡ None) × SentPart talk0 talk1 (both_send 3 c.args.level own0 own1)) in
    let totals1 = map (own_total (picked c.args.batch.now c.args.passed.now) One) c.args.candidates.now in
    subst (λ own0. sent own0 totals1) (c.deref.ensures.value ∙ c.in_ok-totals0.ensures.totals0)
    (subst (sent c.deref.result.now) (c.deref-2.ensures.value ∙ c.in_ok-totals0.ensures.totals1) c.agreed_sums.ensures.partly)
