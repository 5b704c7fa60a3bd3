use Rattle.lock_row.proofs.Taking.{took}
use Rattle.lock_row.proofs.laws.a_take_and_a_give_are_one_turn.Goals as goal

pub returns : goal.returns
returns g c = λ place pass new taken now t takes is. took g.S.Held.by place pass new taken now t takes is
