use Rattle.std.proofs.Common.{◌≡◌, not, sym, ◌∙◌, ap}
use Rattle.std.specs.Prelude.{◌&&◌}
use Rattle.std.proofs.lemmas.Bool.{false≢true}
use Rattle.walk_definitions.specs.Reports.{same_share}
use Rattle.intake_state.proofs.Same.{shares_decide, differ}
use Rattle.intake_state.proofs.Entering.{chosen_reply}
use Rattle.intake_state.proofs.firsts.reply_by.Goals as goal

pub returns-then-same_share : goal.returns-then-same_share
returns-then-same_share c =
    let held : c.entry.inside.share ≡ c.args.entry.now.share = ap (λ e. e.share) c.entry.view_is in
    sym (ap (λ b. chosen_reply (not b && same_share c.args.entry.now.share c.args.share.now)) c.if-first.false
    ∙ ap chosen_reply
    ((shares_decide c.args.entry.now.share c.args.share.now).1 (sym held ∙ c.same_share.ensures.equal.0 c.if-same_share.true)))

pub returns-else-same_share : goal.returns-else-same_share
returns-else-same_share c =
    let held : c.entry.inside.share ≡ c.args.entry.now.share = ap (λ e. e.share) c.entry.view_is in
    sym (ap (λ b. chosen_reply (not b && same_share c.args.entry.now.share c.args.share.now)) c.if-first.false
    ∙ ap chosen_reply
    (differ c.args.entry.now.share c.args.share.now (λ e. false≢true (sym c.if-same_share.false ∙ c.same_share.ensures.equal.1 (held ∙ e)))))
