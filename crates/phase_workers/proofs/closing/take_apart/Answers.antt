use Rattle.std.proofs.Common.{rules, subst}
use Rattle.std.specs.List.{AllByRecursion}
use Rattle.phase_workers.specs.Gates.{tells_of, rule_of}
use Rattle.phase_workers.specs.Marked.{Home}
use Rattle.phase_workers.proofs.Lists.{front_of, last_of, push_of}
use Rattle.phase_workers.proofs.Together.{pairs_push}
use Rattle.phase_workers.proofs.Seats.{paired_of}
use Rattle.phase_workers.proofs.closing.take_apart.Goals as goal

pub loop-seat-preserved : goal.loop-seat-preserved
loop-seat-preserved g c =
    let inv = c.loop-seat.invariant in
    let rule = g.G.Gate.rule c.args.gate.now in
    let seats = subst (AllByRecursion (Home c.args.level.now.locks c.args.claims.now.id c.args.cache.now.locks (tells_of rule) (rule_of rule c.args.side) c.args.claims.now.tiles)) c.in-Some.ensures.items inv.0 in
    let home = paired_of _ _ _ _ _ _ _ _ (last_of _ _ _ seats) c.in-Some-seat.is in (
      front_of _ _ _ seats,
      rw (c.push_reserved.ensures.items, c.push_reserved-in-Some.ensures.items) (pairs_push _ _ _ _ _ inv.1 home.0),
      search rules,
      search rules,
      search rules,
      search rules,
      rw c.push_reserved-in-Some-2.ensures.items (push_of _ _ _ inv.6 home.1),
      search rules,
      search rules,
    )
