use Rattle.std.proofs.Common.{◌≡◌, length, refl, None}
use Rattle.walk_definitions.specs.Messages.{both_send}
use Rattle.pair_run.specs.AddedKinds.{added_number}
use Rattle.pair_run.specs.Failures.{end_of, Stops}
use Rattle.pair_run.specs.Parts.{exchange}
use Rattle.shelf_io.specs.Seen.{IsReady}
use Rattle.pair_run.specs.Talking.{SentPart}
use Rattle.pair_run.proofs.Exchanges.{err_by, stops_first, stops_second, partly_first, partly_second, passed_both, ready_both}
use Rattle.pair_run.proofs.exchange.exchange_numbers.Goals as goal

pub returns-in_err-to0-clause-stops : goal.returns-in_err-to0-clause-stops
returns-in_err-to0-clause-stops g c =
    let kind = added_number c.args.kind in
    let talk0 = g.K.Link.talk c.args.link.now in
    let talk3 = g.K.Link.talk c.take.new.link in
    err_by c.from_residual-in_err-to0.result c.in_err-to0.field-0.0 (Stops (exchange kind c.args.level c.args.own0.now c.args.own1.now) talk0 talk3)
    c.from_residual-in_err-to0.ensures
    (stops_first kind c.args.level c.args.own0.now c.args.own1.now talk0 (g.K.Link.talk c.send.new.link) (g.K.Link.talk c.send-2.new.link) talk3 (length c.args.own1.now)
    c.in_err-to0.field-0.0 c.in_ok-send.ensures.sent c.in_ok-send-2.ensures.sent c.in_err-to0.ensures.fault c.in_err-to0.ensures.left refl)

pub returns-in_err-to0-clause-partly : goal.returns-in_err-to0-clause-partly
returns-in_err-to0-clause-partly g c =
    let kind = added_number c.args.kind in
    let talk0 = g.K.Link.talk c.args.link.now in
    let talk3 = g.K.Link.talk c.take.new.link in
    err_by c.from_residual-in_err-to0.result c.in_err-to0.field-0.0
    (λ e. IsReady (g.K.Link.is_true c.args.link.now) talk0 → (end_of e ≡ None) × SentPart talk0 talk3 (both_send kind c.args.level c.args.own0.now c.args.own1.now))
    c.from_residual-in_err-to0.ensures
    (partly_first kind c.args.level c.args.own0.now c.args.own1.now c.requires.below0 c.requires.below1 (g.K.Link.is_true c.args.link.now)
    talk0 (g.K.Link.talk c.send.new.link) (g.K.Link.talk c.send-2.new.link) talk3 (length c.args.own1.now) c.in_err-to0.field-0.0
    c.in_ok-send.ensures.sent c.in_ok-send-2.ensures.sent c.in_ok-send.ensures.truly (λ t. c.in_ok-send-2.ensures.truly (c.in_ok-send.ensures.stays_true t))
    c.in_err-to0.ensures.fault c.in_err-to0.ensures.left refl)

pub returns-in_err-to1-clause-stops : goal.returns-in_err-to1-clause-stops
returns-in_err-to1-clause-stops g c =
    let kind = added_number c.args.kind in
    let talk0 = g.K.Link.talk c.args.link.now in
    let talk4 = g.K.Link.talk c.take-2.new.link in
    err_by c.from_residual-in_err-to1.result c.in_err-to1.field-0.0 (Stops (exchange kind c.args.level c.args.own0.now c.args.own1.now) talk0 talk4)
    c.from_residual-in_err-to1.ensures
    (stops_second kind c.args.level c.args.own0.now c.args.own1.now talk0 (g.K.Link.talk c.send.new.link) (g.K.Link.talk c.send-2.new.link) (g.K.Link.talk c.take.new.link) talk4
    (length c.args.own1.now) (length c.args.own0.now) c.in_ok-to0.to0.items
    c.in_err-to1.field-0.0 c.in_ok-send.ensures.sent c.in_ok-send-2.ensures.sent c.in_ok-to0.ensures.elements c.in_ok-to0.ensures.gone
    c.in_err-to1.ensures.fault c.in_err-to1.ensures.left refl refl)

pub returns-in_err-to1-clause-partly : goal.returns-in_err-to1-clause-partly
returns-in_err-to1-clause-partly g c =
    let kind = added_number c.args.kind in
    let talk0 = g.K.Link.talk c.args.link.now in
    let talk4 = g.K.Link.talk c.take-2.new.link in
    err_by c.from_residual-in_err-to1.result c.in_err-to1.field-0.0
    (λ e. IsReady (g.K.Link.is_true c.args.link.now) talk0 → (end_of e ≡ None) × SentPart talk0 talk4 (both_send kind c.args.level c.args.own0.now c.args.own1.now))
    c.from_residual-in_err-to1.ensures
    (partly_second kind c.args.level c.args.own0.now c.args.own1.now c.requires.below0 c.requires.below1 (g.K.Link.is_true c.args.link.now)
    talk0 (g.K.Link.talk c.send.new.link) (g.K.Link.talk c.send-2.new.link) (g.K.Link.talk c.take.new.link) talk4 (length c.args.own1.now) (length c.args.own0.now) c.in_err-to1.field-0.0
    c.in_ok-send.ensures.sent c.in_ok-send-2.ensures.sent c.in_ok-send.ensures.truly (λ t. c.in_ok-send-2.ensures.truly (c.in_ok-send.ensures.stays_true t))
    c.in_ok-to0.ensures.gone c.in_err-to1.ensures.fault c.in_err-to1.ensures.left refl)

pub returns-clause-goes : goal.returns-clause-goes
returns-clause-goes g c =
    let kind = added_number c.args.kind in
    passed_both kind c.args.level c.args.own0.now c.args.own1.now (g.K.Link.talk c.args.link.now) (g.K.Link.talk c.send.new.link) (g.K.Link.talk c.send-2.new.link)
    (g.K.Link.talk c.take.new.link) (g.K.Link.talk c.take-2.new.link) (length c.args.own1.now) (length c.args.own0.now) c.in_ok-to0.to0.items c.in_ok-to1.to1.items
    c.in_ok-send.ensures.sent c.in_ok-send-2.ensures.sent c.in_ok-to0.ensures.elements c.in_ok-to0.ensures.gone c.in_ok-to1.ensures.elements c.in_ok-to1.ensures.gone refl refl

pub returns-clause-truly : goal.returns-clause-truly
returns-clause-truly g c =
    let kind = added_number c.args.kind in
    ready_both kind c.args.level c.args.own0.now c.args.own1.now c.requires.below0 c.requires.below1 (g.K.Link.is_true c.args.link.now) (g.K.Link.is_true c.take-2.new.link)
    (g.K.Link.talk c.args.link.now) (g.K.Link.talk c.send.new.link) (g.K.Link.talk c.send-2.new.link)
    (g.K.Link.talk c.take.new.link) (g.K.Link.talk c.take-2.new.link) (length c.args.own1.now) (length c.args.own0.now) c.in_ok-to0.to0.items c.in_ok-to1.to1.items
    c.in_ok-send.ensures.truly (λ t. c.in_ok-send-2.ensures.truly (c.in_ok-send.ensures.stays_true t))
    c.in_ok-to0.ensures.elements c.in_ok-to0.ensures.gone c.in_ok-to1.ensures.elements c.in_ok-to1.ensures.gone refl refl
    (λ t. c.in_ok-to1.ensures.stays_true (c.in_ok-to0.ensures.stays_true (c.in_ok-send-2.ensures.stays_true (c.in_ok-send.ensures.stays_true t))))
