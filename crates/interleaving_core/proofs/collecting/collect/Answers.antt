use Rattle.std.proofs.Common.{◌∷◌, ◌∙◌, ap, arith}
use Rattle.core_definitions.specs.Phase.{CoreSettings}
use Rattle.interleaving_core.proofs.Collected.{upload-entered, upload-refused, other-passed, batch-sealed}
use Rattle.interleaving_core.proofs.collecting.collect.Goals as goal

pub events-preserved-in-Continue-1 : goal.events-preserved-in-Continue-1
events-preserved-in-Continue-1 c =
    let u = ap (λ (s : CoreSettings). s.uploaders) c.settings.view_is in
    upload-entered c.args.settings.now c.args.events.now c.events.zero c.events.one c.events.events c.next.new.self c.events.invariant c.in-Upload.side c.in-Upload.pass c.in-Upload.share
    c.upload_to.new.zero c.upload_to.new.one (c.in-Some.ensures.some ∙ ap (λ e. e ∷ c.next.new.self) c.in-Upload.is) (omega (arith, c.if-pass-settings.true, u)) c.in_ok-upload_to-in-Upload.ensures

pub events-preserved-else-pass-settings : goal.events-preserved-else-pass-settings
events-preserved-else-pass-settings c =
    let u = ap (λ (s : CoreSettings). s.uploaders) c.settings.view_is in
    upload-refused c.args.settings.now c.args.events.now c.events.zero c.events.one c.events.events c.next.new.self c.events.invariant c.in-Upload.side c.in-Upload.pass c.in-Upload.share
    (c.in-Some.ensures.some ∙ ap (λ e. e ∷ c.next.new.self) c.in-Upload.is) (omega (arith, c.if-pass-settings.false, u))

pub returns-in-Seal-clause-some : goal.returns-in-Seal-clause-some
returns-in-Seal-clause-some c =
    batch-sealed c.args.settings.now c.args.events.now c.events.zero c.events.one c.events.events c.next.new.self c.events.invariant c.in_ok-batch-in-Seal.batch
    (c.in-Some.ensures.some ∙ ap (λ e. e ∷ c.next.new.self) c.in-Seal.is) c.in_ok-batch-in-Seal.ensures.exact

pub events-preserved : goal.events-preserved
events-preserved c =
    other-passed c.args.settings.now c.args.events.now c.events.zero c.events.one c.events.events c.next.new.self c.events.invariant c.in-Some.event c.in-Some.ensures.some
    c.in_default-event.not-Upload c.in_default-event.not-Seal
