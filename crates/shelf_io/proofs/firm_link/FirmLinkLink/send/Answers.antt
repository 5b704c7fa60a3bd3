use Rattle.std.proofs.Common.{◌≡◌, Some, length, ap, ◌∙◌}
use Rattle.shelf_io.specs.Talks.{after_send}
use Rattle.shelf_io.specs.Messages.{messages_of, talk_of}
use Rattle.shelf_io.proofs.KeptSteps.{talk_sent, last_sent}
use Rattle.shelf_io.proofs.TalkLaws.{sends_of}
use Rattle.shelf_io.proofs.firm_link.FirmLinkLink.send.Goals as goal

after : (c : goal.In_default-push_for) → talk_of (record { sent = messages_of c.keep_in.new.sent.items; zero = length c.push_for.new.zero; one = length c.push_for.new.one }) ≡ after_send c.args.from c.args.bytes.now (talk_of c.args.self.now)
after c =
    talk_sent c.args.from c.args.bytes.now c.self.inside.zero c.self.inside.one c.push_for.new.zero c.push_for.new.one (messages_of c.self.inside.sent.items) (messages_of c.keep_in.new.sent.items)
    c.in_default.ensures.kept c.in_default-push_for.ensures.zero c.in_default-push_for.ensures.one
    ∙ ap (λ kept. after_send c.args.from c.args.bytes.now (talk_of kept)) c.self.view_is

pub returns-clause-truly : goal.returns-clause-truly
returns-clause-truly c = λ _. ap Some (after c)

pub returns-clause-sent : goal.returns-clause-sent
returns-clause-sent c = sends_of c.args.from c.args.bytes.now (talk_of c.args.self.now) _ (after c)

pub invariant_of-self-in_default-push_for : goal.invariant_of-self-in_default-push_for
invariant_of-self-in_default-push_for c =
    last_sent c.args.from c.args.bytes.now c.self.inside.zero c.self.inside.one c.push_for.new.zero c.push_for.new.one (messages_of c.self.inside.sent.items) (messages_of c.keep_in.new.sent.items)
    c.in_default.ensures.kept c.in_default-push_for.ensures.zero c.in_default-push_for.ensures.one c.self.invariant
