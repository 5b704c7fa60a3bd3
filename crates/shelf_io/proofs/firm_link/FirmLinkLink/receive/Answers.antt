use Rattle.std.proofs.Common.{Some, sym, ap, ap₂, ◌∙◌}
use Rattle.shelf_io.specs.Talks.{after_receive}
use Rattle.shelf_io.specs.Messages.{messages_of, talk_of}
use Rattle.shelf_io.proofs.KeptSteps.{talk_received_zero, talk_received_one}
use Rattle.shelf_io.proofs.firm_link.FirmLinkLink.receive.Goals as goal

pub returns-in-Zero-clause-received : goal.returns-in-Zero-clause-received
returns-in-Zero-clause-received c = ap Some (
    talk_received_zero c.self.inside.zero c.self.inside.one c.take-n.new.self (messages_of c.self.inside.sent.items) c.take-n.result
    c.take-n.ensures.left c.take-n.ensures.within.1 c.self.invariant.of_one
    ∙ ap₂ (λ to kept. after_receive to c.take-n.result (talk_of kept)) (sym c.in-Zero.is) c.self.view_is)

pub returns-in-One-clause-received : goal.returns-in-One-clause-received
returns-in-One-clause-received c = ap Some (
    talk_received_one c.self.inside.zero c.self.inside.one c.take-n-in-One.new.self (messages_of c.self.inside.sent.items) c.take-n-in-One.result
    c.take-n-in-One.ensures.left c.take-n-in-One.ensures.within.1 c.self.invariant.of_zero
    ∙ ap₂ (λ to kept. after_receive to c.take-n-in-One.result (talk_of kept)) (sym c.in-One.is) c.self.view_is)
