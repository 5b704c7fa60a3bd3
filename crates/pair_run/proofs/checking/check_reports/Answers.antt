use Rattle.std.proofs.Common.{◌≡◌, ◌∙◌, refl, None, subst}
use Rattle.definitions.specs.declared.Side.TheVariants.{Zero, One}
use Rattle.walk_definitions.specs.Messages.{both_send}
use Rattle.walk_definitions.specs.Heard.{sigmas}
use Rattle.pair_run.specs.declared.answers.PairError.TheVariants.{Memory}
use Rattle.pair_run.specs.Failures.{end_of}
use Rattle.pair_run.specs.Places.{picked}
use Rattle.shelf_io.specs.Seen.{IsReady}
use Rattle.pair_run.specs.Talking.{SentMore, SentPart}
use Rattle.pair_run.proofs.Followed.{err_same, part_whole}
use Rattle.pair_run.proofs.checking.check_reports.Goals as goal

pub returns-in_err-kept_places-clause-partly : goal.returns-in_err-kept_places-clause-partly
returns-in_err-kept_places-clause-partly g c =
    let live = picked c.args.batch.now c.args.live.now in
    let talk0 = g.K.Link.talk c.args.link.now in
    let talk1 = g.K.Link.talk c.agreed_sums.new.link in
    let level = c.args.level in
    let own0 = c.deref.ensures.value ∙ c.in_ok-sigmas0.ensures.sigmas in
    let own1 = c.deref-2.ensures.value ∙ c.in_ok-sigmas1.ensures.sigmas in
    let both = both_send 2 level (sigmas level Zero live c.args.opened0.now) (sigmas level One live c.args.opened1.now) in
    err_same c.from_residual-in_err-kept_places.result Memory
    (λ e. IsReady (g.K.Link.is_true c.args.link.now) talk0 → (end_of e ≡ None) × SentPart talk0 talk1 both)
    c.from_residual-in_err-kept_places.ensures
    (λ ready. (
      refl,
      part_whole talk0 talk1 both
          (subst (λ own. SentMore talk0 talk1 (both_send 2 level (sigmas level Zero live c.args.opened0.now) own)) own1
          (subst (λ own. SentMore talk0 talk1 (both_send 2 level own c.deref-2.result.now)) own0 (c.in_ok-numbers.ensures.truly ready).2)),
    ))
