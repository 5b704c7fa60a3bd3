use Rattle.std.proofs.Common.{◌≡◌, ◌*◌, sym, length, None}
use Rattle.walk_definitions.specs.Messages.{flat, both_send}
use Rattle.peer_exchange.proofs.Flats.{length-flat}
use Rattle.pair_run.specs.Failures.{end_of, Stops}
use Rattle.pair_run.specs.Parts.{exchange}
use Rattle.shelf_io.specs.Seen.{IsReady}
use Rattle.pair_run.specs.Talking.{SentPart}
use Rattle.pair_run.proofs.Exchanges.{err_by, stops_first, stops_second, partly_first, partly_second, passed_both, ready_both, sent_one, own_stops, back}
use Rattle.pair_run.proofs.exchange.exchange_sums.Goals as goal

pub returns-in_err-to0-clause-stops : goal.returns-in_err-to0-clause-stops
returns-in_err-to0-clause-stops g c =
    let sums0 = flat c.args.own0.now in
    let sums1 = flat c.args.own1.now in
    let talk0 = g.K.Link.talk c.args.link.now in
    let talk3 = g.K.Link.talk c.take_sums.new.link in
    err_by c.from_residual-in_err-to0.result c.in_err-to0.field-0.0 (Stops (exchange 1 c.args.level sums0 sums1) talk0 talk3)
    c.from_residual-in_err-to0.ensures
    (stops_first 1 c.args.level sums0 sums1 talk0 (g.K.Link.talk c.send_sums.new.link) (g.K.Link.talk c.send_sums-2.new.link) talk3 (3 * length c.args.own1.now)
    c.in_err-to0.field-0.0 c.in_ok-send_sums.ensures.sent c.in_ok-send_sums-2.ensures.sent c.in_err-to0.ensures.fault c.in_err-to0.ensures.left (sym (length-flat c.args.own1.now)))

pub returns-in_err-to0-clause-partly : goal.returns-in_err-to0-clause-partly
returns-in_err-to0-clause-partly g c =
    let sums0 = flat c.args.own0.now in
    let sums1 = flat c.args.own1.now in
    let talk0 = g.K.Link.talk c.args.link.now in
    let talk3 = g.K.Link.talk c.take_sums.new.link in
    err_by c.from_residual-in_err-to0.result c.in_err-to0.field-0.0
    (λ e. IsReady (g.K.Link.is_true c.args.link.now) talk0 → (end_of e ≡ None) × SentPart talk0 talk3 (both_send 1 c.args.level sums0 sums1))
    c.from_residual-in_err-to0.ensures
    (partly_first 1 c.args.level sums0 sums1 c.requires.below0 c.requires.below1 (g.K.Link.is_true c.args.link.now)
    talk0 (g.K.Link.talk c.send_sums.new.link) (g.K.Link.talk c.send_sums-2.new.link) talk3 (3 * length c.args.own1.now) c.in_err-to0.field-0.0
    c.in_ok-send_sums.ensures.sent c.in_ok-send_sums-2.ensures.sent c.in_ok-send_sums.ensures.truly (λ t. c.in_ok-send_sums-2.ensures.truly (c.in_ok-send_sums.ensures.stays_true t))
    c.in_err-to0.ensures.fault c.in_err-to0.ensures.left (sym (length-flat c.args.own1.now)))

pub returns-in_err-to1-clause-stops : goal.returns-in_err-to1-clause-stops
returns-in_err-to1-clause-stops g c =
    let sums0 = flat c.args.own0.now in
    let sums1 = flat c.args.own1.now in
    let talk0 = g.K.Link.talk c.args.link.now in
    let talk4 = g.K.Link.talk c.take_sums-2.new.link in
    err_by c.from_residual-in_err-to1.result c.in_err-to1.field-0.0 (Stops (exchange 1 c.args.level sums0 sums1) talk0 talk4)
    c.from_residual-in_err-to1.ensures
    (stops_second 1 c.args.level sums0 sums1 talk0 (g.K.Link.talk c.send_sums.new.link) (g.K.Link.talk c.send_sums-2.new.link) (g.K.Link.talk c.take_sums.new.link) talk4
    (3 * length c.args.own1.now) (3 * length c.args.own0.now) (flat c.in_ok-to0.to0.items)
    c.in_err-to1.field-0.0 c.in_ok-send_sums.ensures.sent c.in_ok-send_sums-2.ensures.sent c.in_ok-to0.ensures.elements c.in_ok-to0.ensures.gone
    c.in_err-to1.ensures.fault c.in_err-to1.ensures.left (sym (length-flat c.args.own1.now)) (sym (length-flat c.args.own0.now)))

pub returns-in_err-to1-clause-partly : goal.returns-in_err-to1-clause-partly
returns-in_err-to1-clause-partly g c =
    let sums0 = flat c.args.own0.now in
    let sums1 = flat c.args.own1.now in
    let talk0 = g.K.Link.talk c.args.link.now in
    let talk4 = g.K.Link.talk c.take_sums-2.new.link in
    err_by c.from_residual-in_err-to1.result c.in_err-to1.field-0.0
    (λ e. IsReady (g.K.Link.is_true c.args.link.now) talk0 → (end_of e ≡ None) × SentPart talk0 talk4 (both_send 1 c.args.level sums0 sums1))
    c.from_residual-in_err-to1.ensures
    (partly_second 1 c.args.level sums0 sums1 c.requires.below0 c.requires.below1 (g.K.Link.is_true c.args.link.now)
    talk0 (g.K.Link.talk c.send_sums.new.link) (g.K.Link.talk c.send_sums-2.new.link) (g.K.Link.talk c.take_sums.new.link) talk4 (3 * length c.args.own1.now) (3 * length c.args.own0.now) c.in_err-to1.field-0.0
    c.in_ok-send_sums.ensures.sent c.in_ok-send_sums-2.ensures.sent c.in_ok-send_sums.ensures.truly (λ t. c.in_ok-send_sums-2.ensures.truly (c.in_ok-send_sums.ensures.stays_true t))
    c.in_ok-to0.ensures.gone c.in_err-to1.ensures.fault c.in_err-to1.ensures.left (sym (length-flat c.args.own0.now)))

pub returns-clause-goes : goal.returns-clause-goes
returns-clause-goes g c =
    let sums0 = flat c.args.own0.now in
    let sums1 = flat c.args.own1.now in
    passed_both 1 c.args.level sums0 sums1 (g.K.Link.talk c.args.link.now) (g.K.Link.talk c.send_sums.new.link) (g.K.Link.talk c.send_sums-2.new.link)
    (g.K.Link.talk c.take_sums.new.link) (g.K.Link.talk c.take_sums-2.new.link) (3 * length c.args.own1.now) (3 * length c.args.own0.now) (flat c.in_ok-to0.to0.items) (flat c.in_ok-to1.to1.items)
    c.in_ok-send_sums.ensures.sent c.in_ok-send_sums-2.ensures.sent c.in_ok-to0.ensures.elements c.in_ok-to0.ensures.gone c.in_ok-to1.ensures.elements c.in_ok-to1.ensures.gone (sym (length-flat c.args.own1.now)) (sym (length-flat c.args.own0.now))

pub returns-clause-truly : goal.returns-clause-truly
returns-clause-truly g c =
    let sums0 = flat c.args.own0.now in
    let sums1 = flat c.args.own1.now in
    λ ready.
    let all = ready_both 1 c.args.level sums0 sums1 c.requires.below0 c.requires.below1 (g.K.Link.is_true c.args.link.now) (g.K.Link.is_true c.take_sums-2.new.link)
    (g.K.Link.talk c.args.link.now) (g.K.Link.talk c.send_sums.new.link) (g.K.Link.talk c.send_sums-2.new.link)
    (g.K.Link.talk c.take_sums.new.link) (g.K.Link.talk c.take_sums-2.new.link) (3 * length c.args.own1.now) (3 * length c.args.own0.now) (flat c.in_ok-to0.to0.items) (flat c.in_ok-to1.to1.items)
    c.in_ok-send_sums.ensures.truly (λ t. c.in_ok-send_sums-2.ensures.truly (c.in_ok-send_sums.ensures.stays_true t))
    c.in_ok-to0.ensures.elements c.in_ok-to0.ensures.gone c.in_ok-to1.ensures.elements c.in_ok-to1.ensures.gone (sym (length-flat c.args.own1.now)) (sym (length-flat c.args.own0.now))
    (λ t. c.in_ok-to1.ensures.stays_true (c.in_ok-to0.ensures.stays_true (c.in_ok-send_sums-2.ensures.stays_true (c.in_ok-send_sums.ensures.stays_true t))))
    ready in
    (back c.in_ok-to0.to0.items c.args.own1.now all.0, back c.in_ok-to1.to1.items c.args.own0.now all.1, all.2, all.3)

pub returns-in_err-send_sums-2-clause-partly : goal.returns-in_err-send_sums-2-clause-partly
returns-in_err-send_sums-2-clause-partly g c =
    let sums0 = flat c.args.own0.now in
    let sums1 = flat c.args.own1.now in
    let talk0 = g.K.Link.talk c.args.link.now in
    let talk2 = g.K.Link.talk c.send_sums-2.new.link in
    err_by c.from_residual-in_err-send_sums-2.result c.in_err-send_sums-2.field-0.0
    (λ e. IsReady (g.K.Link.is_true c.args.link.now) talk0 → (end_of e ≡ None) × SentPart talk0 talk2 (both_send 1 c.args.level sums0 sums1))
    c.from_residual-in_err-send_sums-2.ensures
    (λ ready. (
      own_stops c.in_err-send_sums-2.field-0.0 c.in_err-send_sums-2.ensures.own,
      sent_one 1 c.args.level sums0 sums1 talk0 (g.K.Link.talk c.send_sums.new.link) talk2 c.in_ok-send_sums.ensures.sent c.in_err-send_sums-2.ensures.refused,
    ))
