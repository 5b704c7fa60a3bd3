use Rattle.std.proofs.Common.{◌≡◌, sym, subst}
use Rattle.level_totals.specs.Stripes.{HeldSeen, stripe_of}
use Rattle.level_totals.proofs.Locks.{of_stripe_more}
use Rattle.level_totals.proofs.held_phase.HeldPhase.post.Goals as goal

pub invariant_of-self : goal.invariant_of-self
invariant_of-self c =
    let own = subst (λ (h : HeldSeen). stripe_of h.state.plan.tiles c.args.tile ≡ h.stripe) (sym c.self.view_is) c.requires.stripe in
    rw c.post.ensures.plan
    (of_stripe_more c.self.inside.state.plan.tiles c.self.inside.stripe c.args.number c.args.tile c.post.result c.self.inside.state.log c.post.new.self.log own c.post.ensures.log c.self.invariant)
