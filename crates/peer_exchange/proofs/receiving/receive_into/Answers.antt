use Rattle.std.proofs.Common.{rules, arith, ◌-◌, length, Ok, ap}
use Rattle.peer_exchange.proofs.Received.{more_told, more_bytes, ended_of, ended_told, ended_bytes}
use Rattle.peer_exchange.proofs.receiving.receive_into.Goals as goal

pub returns-then-n-eq0-clause-bytes : goal.returns-then-n-eq0-clause-bytes
returns-then-n-eq0-clause-bytes g c =
    ended_bytes c.args.to c.loop-filled.filled (length c.loop-filled.into - c.loop-filled.filled) (length c.args.into.now) c.loop-filled.into c.receive.new.into
    (g.K.Link.talk c.args.link.now) (g.K.Link.talk c.loop-filled.link) c.loop-filled.invariant.talk c.loop-filled.invariant.within
    (omega (arith, c.loop-filled.invariant.within, c.loop-filled.invariant.long)) c.loop-filled.invariant.bytes
    (ended_of c.args.to (g.K.Link.talk c.loop-filled.link) (ap Ok c.if-n-eq0.true) (search rules) c.in_ok-n.ensures.end)

pub returns-then-n-eq0-clause-received : goal.returns-then-n-eq0-clause-received
returns-then-n-eq0-clause-received g c =
    ended_told c.args.to c.loop-filled.filled c.in_ok-n.n (length c.args.into.now) (g.K.Link.talk c.args.link.now) (g.K.Link.talk c.loop-filled.link)
    (g.K.Link.talk c.receive.new.self) c.loop-filled.invariant.talk c.in_ok-n.ensures.received c.if-n-eq0.true
    (omega (arith, c.loop-filled.invariant.within, c.loop-filled.invariant.long))
    (ended_of c.args.to (g.K.Link.talk c.loop-filled.link) (ap Ok c.if-n-eq0.true) (search rules) c.in_ok-n.ensures.end)

pub loop-filled-preserved : goal.loop-filled-preserved
loop-filled-preserved g c = record {
  within = search rules;
  long = search rules;
  talk = more_told c.args.to c.loop-filled.filled c.in_ok-n.n (g.K.Link.talk c.args.link.now) (g.K.Link.talk c.loop-filled.link) (g.K.Link.talk c.receive.new.self)
      c.loop-filled.invariant.talk c.in_ok-n.ensures.received;
  bytes = more_bytes c.args.to c.loop-filled.filled c.in_ok-n.n (length c.loop-filled.into - c.loop-filled.filled) c.loop-filled.into c.receive.new.into
      (g.K.Link.talk c.args.link.now) (g.K.Link.talk c.loop-filled.link) c.loop-filled.invariant.talk c.loop-filled.invariant.within (search rules)
      c.loop-filled.invariant.bytes c.in_ok-n.ensures.bytes;
  stays_true = λ h. c.in_ok-n.ensures.stays_true (c.loop-filled.invariant.stays_true h);
  count = omega (arith, c.loop-filled.invariant.count, c.in_ok-n.ensures.cause.later);
}
