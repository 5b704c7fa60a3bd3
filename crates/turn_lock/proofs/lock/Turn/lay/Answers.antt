use Rattle.std.proofs.Common.{◌≡◌, [], ◌∷◌, ◌++◌, Some, ap, sym, ◌∙◌, subst}
use Rattle.atomic_table.specs.Table.{opening}
use Rattle.turn_lock.specs.Seats.{resting, new_pass}
use Rattle.turn_lock.specs.Kept.{Kept}
use Rattle.turn_lock.proofs.Moves.{opens}
use Rattle.turn_lock.proofs.lock.Turn.lay.Goals as goal

pub new-requires : goal.new-requires
new-requires g c =
    let H = g.S.Held in
    let p = H.plan c.of.result.value in
    let items : c.push_reserved.new.self.items ≡ Some c.args.value ∷ [] = c.push_reserved.ensures.items ∙ ap (λ l. l ++ Some c.args.value ∷ []) c.in_ok-slots.ensures.items in
    subst (λ l. Kept H.plan H.log H.by p c.args.passes (opening (0 ∷ 0 ∷ []) l (resting 1 (new_pass 0 p [] ∷ []))))
    (sym items)
    (opens H.plan H.log H.by p c.args.passes c.args.value (ap H.plan (sym c.of.ensures)) c.requires.empty c.requires.count.0 c.requires.count.1)
