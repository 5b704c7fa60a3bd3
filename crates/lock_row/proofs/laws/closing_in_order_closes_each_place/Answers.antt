use Rattle.lock_row.proofs.AtPlace.{one_by_one, closed_at, pass_at}
use Rattle.lock_row.proofs.laws.closing_in_order_closes_each_place.Goals as goal

pub returns-clause-order : goal.returns-clause-order
returns-clause-order g c = one_by_one g.S.Held.plan g.S.Held.log g.S.Held.by

pub returns-clause-place : goal.returns-clause-place
returns-clause-place g c = closed_at g.S.Held.plan g.S.Held.log g.S.Held.by

pub returns-clause-rows : goal.returns-clause-rows
returns-clause-rows g c = pass_at g.S.Held.plan g.S.Held.log g.S.Held.by
