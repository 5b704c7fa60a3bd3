use Rattle.std.proofs.Common.{◌≡◌, ◌<◌, ◌++◌, ℕ, arith, sym, ap, ◌∙◌, subst, Option, Some, ◌∷◌, [], length, drop, map}
use Rattle.atomic_table.specs.Table.{Me, rest}
use Rattle.turn_lock.specs.declared.views.View.{View}
use Rattle.std.specs.List.{AllByRecursion}
use Rattle.turn_lock.specs.Seen.{LockId, PassSeen}
use Rattle.turn_lock.specs.Seats.{inside, gave}
use Rattle.turn_lock.proofs.Logs.{gave_one}
use Rattle.turn_lock.proofs.Told.{left_mine}
use Rattle.turn_lock.proofs.Moves.{leaves_one}
use Rattle.turn_lock.proofs.lock.Turn.give.Goals as goal

pub fetch_add-requires : goal.fetch_add-requires
fetch_add-requires g c =
    let H = g.S.Held in
    let shared = c.board-shared.result.now in
    let old = c.into_seat-seat.result.0.me in
    let re = c.into_seat-seat.ensures in
    let ens = c.exchange-empty.ensures in
    let turn = c.args.turn in
    let more = c.requires.grown in
    let p = H.plan shared.key.first.value in
    let me_is : ◌≡◌ {A = Me (Option g.row.S.Denot) (View g.row.S-Plan.Denot g.row.S-Entry.Denot)} c.exchange-empty.new.seat.me (inside old.0.made old.0.mine old.0.ticket turn.taken, (0, Some c.args.value) ∷ []) =
    ens.3 ∙ ap (λ (m : Me (Option g.row.S.Denot) (View g.row.S-Plan.Denot g.row.S-Entry.Denot)). (m.0, (0, Some c.args.value) ∷ rest m.1)) re.me in
    let words : 1 < shared.table_id.words = omega (arith, c.board-shared.ensures.counts.1) in
    let slots : shared.table_id.slots ≡ 1 = c.board-shared.ensures.counts.2 in
    let same = ens.0 ∙ re.table.0 ∙ ap (λ (l : LockId g.row.S-Plan.Denot). l.table) c.requires.this_lock ∙ sym c.board-shared.ensures.counts.0 in
    let planned : turn.lock.plan ≡ p = ap (λ (l : LockId g.row.S-Plan.Denot). l.plan) c.requires.this_lock ∙ sym c.board-shared.ensures.key.0 in (
      same,
      words,
      rw (me_is, slots) (leaves_one H.plan H.log H.by p shared.key.passes c.exchange-empty.new.seat.id old.0.made old.0.ticket old.0.mine turn.taken more.0 c.args.value re.one
          (c.requires.plan ∙ sym c.board-shared.ensures.key.0) (re.mine.0 ∙ ap (λ q. q ∷ []) planned) more.1 (subst (λ (k : ℕ). AllByRecursion (λ e. H.by e ≡ k) more.0) (sym re.mine.1) more.2)),
    )

pub returns : goal.returns
returns g c =
    let H = g.S.Held in
    let old = c.into_seat-seat.result.0.me in
    let re = c.into_seat-seat.ensures in
    let turn = c.args.turn in
    let now = H.log c.args.value in
    let d : PassSeen g.row.S-Plan.Denot g.row.S-Entry.Denot = record { lock = turn.lock; number = turn.number; seen = now; own = turn.own ++ drop (length turn.taken) now } in
    let taken : old.0.taken ≡ turn.taken = ap (λ (m : Me (Option g.row.S.Denot) (View g.row.S-Plan.Denot g.row.S-Entry.Denot)). m.0.taken) re.me in
    let mine = left_mine H.log old c.exchange-empty.new.seat.me c.fetch_add.new.seat.me c.args.value c.exchange-empty.ensures.3 c.fetch_add.ensures.2
    ∙ ap (λ l. map (gave l now) old.0.mine) taken ∙ gave_one turn.taken now turn.lock.plan turn.number turn.own old.0.mine re.one re.mine.0 re.mine.1 re.mine.2 in
    c.from_seat.ensures d (c.fetch_add.ensures.0 ∙ c.exchange-empty.ensures.0 ∙ re.table.0) mine
