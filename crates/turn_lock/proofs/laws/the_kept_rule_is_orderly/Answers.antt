use Rattle.turn_lock.proofs.Orderly.{orderly}
use Rattle.turn_lock.proofs.laws.the_kept_rule_is_orderly.Goals as goal

pub returns : goal.returns
returns g c plan passes s kept =
    let H = g.S.Held in
    (kept.0, kept.1, kept.2, kept.3, orderly H.plan H.log H.by plan passes kept.0 kept.1 kept.2 kept.3 s kept.4)
