use Rattle.std.proofs.Common.{rules, ◌∙◌, ap, subst}
use Rattle.std.specs.List.{AllByRecursion}
use Rattle.std.proofs.lemmas.Bool.{OnTrue_at}
use Rattle.report_collection.specs.Uploads.{IsOf, IsTaken, Seated, own_at, queue_at}
use Rattle.report_collection.proofs.Lists.{push_of, front_of, last_of}
use Rattle.report_collection.proofs.Seats.{own_up, queue_up, is_of}
use Rattle.report_collection.proofs.dealing.get_up.Goals as goal

pub loop-seat-preserved : goal.loop-seat-preserved
loop-seat-preserved c =
    let inv = c.loop-seat.invariant in
    let seat = c.in-Some.seat in
    let pass = c.in-Some-seat.uploader.pass in (
      front_of IsTaken _ _ (subst (AllByRecursion IsTaken) c.in-Some.ensures.items inv.0),
      rw c.push_reserved.ensures.items
          (own_up _ c.loop-seat.seats.items c.pop.new.self.items seat c.loop-seat.passes.items pass c.in-Some.ensures.items (ap own_at c.in-Some-seat.is) inv.1),
      (λ lock h.
          let two = inv.2 lock h in
          let seats = subst (AllByRecursion (Seated lock)) c.in-Some.ensures.items two.0 in (
            front_of (Seated lock) _ _ seats,
            rw c.push_reserved.ensures.items (push_of (IsOf lock) _ _ two.1 (is_of lock seat c.in-Some-seat.uploader (last_of (Seated lock) _ _ seats) c.in-Some-seat.is)),
          )),
      (λ t.
          let both = OnTrue_at t c.none_left-all.ensures in
          inv.3 both.0 ∙ queue_up c.loop-seat.seats.items c.pop.new.self.items seat c.in-Some.ensures.items (ap queue_at c.in-Some-seat.is ∙ both.1)),
      search rules,
      search rules,
      search rules,
      search rules,
    )

pub returns-clause-ours : goal.returns-clause-ours
returns-clause-ours c lock h = (c.loop-seat.invariant.2 lock h).1
