use Rattle.std.proofs.Common.{refl, arith, sym, ◌∙◌}
use Rattle.turn_lock.proofs.Moves.{opens, draws, watches, slot_moves, leaves, splits, joins}
use Rattle.turn_lock.proofs.laws.each_step_keeps_the_rule.Goals as goal

pub returns-clause-start : goal.returns-clause-start
returns-clause-start g c passes x some_pass few empty =
    let H = g.S.Held in
    opens H.plan H.log H.by (H.plan x) passes x refl empty some_pass few

pub returns-clause-ticket : goal.returns-clause-ticket
returns-clause-ticket g c plan passes id made m ms =
    let H = g.S.Held in
    draws H.plan H.log H.by plan passes id 1 made _ (omega arith)

pub returns-clause-watch : goal.returns-clause-watch
returns-clause-watch g c plan passes id made ticket mine =
    let H = g.S.Held in
    watches H.plan H.log H.by plan passes id 1 made ticket mine

pub returns-clause-slot : goal.returns-clause-slot
returns-clause-slot g c plan passes =
    let H = g.S.Held in
    slot_moves H.plan H.log H.by plan passes

pub returns-clause-leave : goal.returns-clause-leave
returns-clause-leave g c plan passes id made ticket m taken x same planned grew =
    let H = g.S.Held in
    leaves H.plan H.log H.by plan passes id made ticket m taken grew.0 x (same ∙ sym planned) grew.1 grew.2

pub returns-clause-split : goal.returns-clause-split
returns-clause-split g c plan passes =
    let H = g.S.Held in
    splits H.plan H.log H.by plan passes

pub returns-clause-join : goal.returns-clause-join
returns-clause-join g c plan passes id other made theirs ms ns =
    let H = g.S.Held in
    joins H.plan H.log H.by plan passes id other made theirs ms ns
