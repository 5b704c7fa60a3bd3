use Rattle.std.proofs.Common.{◌≡◌, ◌⊎◌, inl, inr, ℕ, [], arith}
use Rattle.shelf_io.specs.Seen.{sink_seen}
use Rattle.shelf_io.specs.declared.refused.Refused.{Refused}
use Rattle.shelf_io.specs.declared.refused.Refused.TheVariants.{Failed, Memory}
use Rattle.poplar_top.specs.Stops.{sink_status}
use Rattle.poplar_top.proofs.TopSteps.{fault_first, fault_within, out_first, err_whole, order_first, order_within, order_whole}
use Rattle.poplar_top.proofs.telling.write_texts.Goals as goal

eight_or_ten : (refused : Refused) (status : ℕ) → status ≡ sink_status refused → (status ≡ 8) ⊎ (status ≡ 10)
eight_or_ten Failed status e = inr e
eight_or_ten Memory status e = inl e

other : (refused : Refused) (status : ℕ) → status ≡ sink_status refused → status ≡ 0 → ⊥
other Failed status e z = omega (arith, e, z)
other Memory status e z = omega (arith, e, z)

pub returns-in-Err-clause-err : goal.returns-in-Err-clause-err
returns-in-Err-clause-err g c = fault_first [] c.args.lines.now c.tell_sink.result _ _ (other _ _ c.tell_sink.ensures.status) c.tell_sink.ensures.line

pub returns-in-Err-write_all-clause-err : goal.returns-in-Err-write_all-clause-err
returns-in-Err-write_all-clause-err g c =
    fault_within [] c.args.lines.now c.tell_sink-in-Err-write_all.result _ _ _ (eight_or_ten _ _ c.tell_sink-in-Err-write_all.ensures.status)
    c.in-Err-write_all.ensures.part c.tell_sink-in-Err-write_all.ensures.line

pub returns-in-Err-write_all-clause-out : goal.returns-in-Err-write_all-clause-out
returns-in-Err-write_all-clause-out g c =
    out_first (g.K.Sink.taken c.args.out.now) (g.K.Sink.taken c.write_all.new.sink) c.args.text.now c.tell_sink-in-Err-write_all.result
    (eight_or_ten _ _ c.tell_sink-in-Err-write_all.ensures.status) c.in_default.ensures.whole

pub returns-clause-err : goal.returns-clause-err
returns-clause-err g c =
    err_whole [] c.args.lines.now (g.E.Sink.taken c.args.err.now) (g.E.Sink.taken c.write_all-2.new.sink) c.in_default-write_all.ensures.whole

pub returns-in-Err-clause-order : goal.returns-in-Err-clause-order
returns-in-Err-clause-order g c =
    order_first c.args.text.now c.args.lines.now c.tell_sink.result (sink_seen g.K.Sink c.args.out.now) (sink_seen g.K.Sink c.write_all.new.sink)
    (sink_seen g.E.Sink c.args.err.now) (sink_seen g.E.Sink c.tell_sink.new.err) _ c.tell_sink.ensures.status c.in-Err.ensures.cause.failed c.tell_sink.ensures.line

pub returns-in-Err-write_all-clause-order : goal.returns-in-Err-write_all-clause-order
returns-in-Err-write_all-clause-order g c =
    order_within c.args.text.now c.args.lines.now c.tell_sink-in-Err-write_all.result (sink_seen g.K.Sink c.args.out.now) (sink_seen g.K.Sink c.write_all.new.sink)
    (sink_seen g.E.Sink c.args.err.now) (sink_seen g.E.Sink c.tell_sink-in-Err-write_all.new.err) _ c.in_default.ensures.whole
    c.in-Err-write_all.ensures.part c.tell_sink-in-Err-write_all.ensures.line

pub returns-clause-order : goal.returns-clause-order
returns-clause-order g c =
    order_whole c.args.text.now c.args.lines.now (sink_seen g.K.Sink c.args.out.now) (sink_seen g.K.Sink c.write_all.new.sink)
    (sink_seen g.E.Sink c.args.err.now) (sink_seen g.E.Sink c.write_all-2.new.sink) c.in_default.ensures.whole c.in_default-write_all.ensures.whole
