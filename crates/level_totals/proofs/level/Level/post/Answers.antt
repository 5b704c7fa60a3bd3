use Rattle.std.proofs.Common.{◌≡◌, ap, ◌∙◌, subst}
use Rattle.level_totals.specs.declared.level.Level.TheInside.{Inside}
use Rattle.level_totals.specs.Stripes.{stripe_of}
use Rattle.level_totals.specs.Levels.{LevelSeen, SawPost, OwnsPost, SameElsewhere}
use Rattle.level_totals.proofs.Posts.{has_grown, numbers_stay, has_seen, is_owned, others_stay}
use Rattle.level_totals.proofs.level.Level.post.Goals as goal

pub give-requires-clause-grown : goal.give-requires-clause-grown
give-requires-clause-grown g c =
    has_grown c.post-posted.result c.args.tile c.number.result c.stripe_of-stripe.result c.args.pass _ _ c.take_stripe-held.result.1 c.take_stripe-held.ensures.takes c.number.ensures c.post-posted.ensures.log

pub returns-clause-numbers : goal.returns-clause-numbers
returns-clause-numbers g c =
    numbers_stay c.post-posted.result c.args.tile c.number.result c.stripe_of-stripe.result c.args.pass c.give.result _ _ c.take_stripe-held.result.1 c.take_stripe-held.ensures.takes c.give.ensures.pass
    c.number.ensures c.post-posted.ensures.log

pub returns-clause-seen : goal.returns-clause-seen
returns-clause-seen g c =
    let is : c.stripe_of-stripe.result ≡ stripe_of c.args.self.now.plan.tiles c.args.tile = c.stripe_of-stripe.ensures.value ∙ ap (λ (i : Inside). stripe_of i.plan.tiles c.args.tile) c.self-inside.view_is
    ∙ ap (λ (l : LevelSeen). stripe_of l.plan.tiles c.args.tile) c.self.view_is in
    subst (λ s. SawPost c.post-posted.result s c.args.tile c.args.pass c.give.result) is
    (has_seen c.post-posted.result c.args.tile c.number.result c.stripe_of-stripe.result c.args.pass c.give.result _ _ c.take_stripe-held.result.1 c.take_stripe-held.ensures.takes c.give.ensures.pass
    c.number.ensures c.post-posted.ensures.log)

pub returns-clause-own : goal.returns-clause-own
returns-clause-own g c =
    let is : c.stripe_of-stripe.result ≡ stripe_of c.args.self.now.plan.tiles c.args.tile = c.stripe_of-stripe.ensures.value ∙ ap (λ (i : Inside). stripe_of i.plan.tiles c.args.tile) c.self-inside.view_is
    ∙ ap (λ (l : LevelSeen). stripe_of l.plan.tiles c.args.tile) c.self.view_is in
    subst (λ s. OwnsPost c.post-posted.result s c.args.tile c.args.pass c.give.result) is
    (is_owned c.post-posted.result c.args.tile c.number.result c.stripe_of-stripe.result c.args.pass c.give.result _ _ c.take_stripe-held.result.1 c.take_stripe-held.ensures.takes c.give.ensures.pass
    c.number.ensures c.post-posted.ensures.log)

pub returns-clause-others : goal.returns-clause-others
returns-clause-others g c =
    let is : c.stripe_of-stripe.result ≡ stripe_of c.args.self.now.plan.tiles c.args.tile = c.stripe_of-stripe.ensures.value ∙ ap (λ (i : Inside). stripe_of i.plan.tiles c.args.tile) c.self-inside.view_is
    ∙ ap (λ (l : LevelSeen). stripe_of l.plan.tiles c.args.tile) c.self.view_is in
    subst (λ s. SameElsewhere s c.args.pass c.give.result) is
    (others_stay c.post-posted.result c.args.tile c.number.result c.stripe_of-stripe.result c.args.pass c.give.result _ _ c.take_stripe-held.result.1 c.take_stripe-held.ensures.takes c.give.ensures.pass
    c.number.ensures c.post-posted.ensures.log)
