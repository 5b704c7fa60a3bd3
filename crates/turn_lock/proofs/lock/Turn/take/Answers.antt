use Rattle.std.proofs.Common.{◌≡◌, ◌<◌, ℕ, arith, sym, ap, ◌∙◌, Option, Some, List, ◌∷◌, []}
use Rattle.atomic_table.specs.Table.{Me, rest}
use Rattle.turn_lock.specs.declared.views.View.{View}
use Rattle.turn_lock.specs.Seen.{LockId}
use Rattle.turn_lock.specs.Seats.{mine_of}
use Rattle.turn_lock.proofs.Moves.{draws}
use Rattle.turn_lock.proofs.lock.Turn.take.Goals as goal

pub fetch_add-ticket-requires : goal.fetch_add-ticket-requires
fetch_add-ticket-requires g c =
    let H = g.S.Held in
    let shared = c.board-shared.result.now in
    let seat = c.into_seat-seat.result.0 in
    let op = c.into_seat-seat.ensures in
    let words : 0 < shared.table_id.words = omega (arith, c.board-shared.ensures.counts.1) in
    let same : seat.table_id ≡ shared.table_id = op.table.0 ∙ ap (λ (l : LockId g.row.S-Plan.Denot). l.table) c.requires.this_lock ∙ sym c.board-shared.ensures.counts.0 in
    (same, words, rw op.me (draws H.plan H.log H.by (H.plan shared.key.first.value) shared.key.passes seat.id shared.table_id.slots seat.me.0.made (mine_of c.args.pass ∷ []) (omega arith)))

pub exchange-requires : goal.exchange-requires
exchange-requires g c =
    let v = c.wait_for_turn.ensures in
    let slots : ◌≡◌ {A = List (ℕ × Option g.row.S.Denot)} c.wait_for_turn.new.seat.me.1 ((0, Some v.served.1) ∷ []) = ap (λ (m : Me (Option g.row.S.Denot) (View g.row.S-Plan.Denot g.row.S-Entry.Denot)). m.1) v.served.2 in
    let same = v.mine ∙ c.fetch_add-ticket.ensures.0 ∙ c.into_seat-seat.ensures.table.0 ∙ ap (λ (l : LockId g.row.S-Plan.Denot). l.table) c.requires.this_lock ∙ sym c.board-shared.ensures.counts.0 in
    (same, (Some v.served.1, slots ∙ ap (λ (l : List (ℕ × Option g.row.S.Denot)). (0, Some v.served.1) ∷ l) (sym (ap rest slots))))
