use Rattle.std.proofs.Common.{sym, ◌∙◌, ap}
use Rattle.std.proofs.lemmas.Bool.{false≢true}
use Rattle.std.specs.Prelude.{if◌then◌else◌}
use Rattle.intake_state.proofs.Same.{shares_decide, differ}
use Rattle.report_batch.specs.declared.content.Content.TheVariants.{One, Clash}
use Rattle.report_batch.proofs.content.one_if_equal.Goals as goal

pub returns-then-same_share : goal.returns-then-same_share
returns-then-same_share c =
    ap (λ b. if b then One c.args.held else Clash)
    (sym ((shares_decide c.args.held c.args.share.now).1 (c.same_share.ensures.equal.0 c.if-same_share.true)))

pub returns-else-same_share : goal.returns-else-same_share
returns-else-same_share c =
    ap (λ b. if b then One c.args.held else Clash)
    (sym (differ c.args.held c.args.share.now (λ e. false≢true (sym c.if-same_share.false ∙ c.same_share.ensures.equal.1 e))))
