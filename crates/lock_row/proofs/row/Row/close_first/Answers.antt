use Rattle.std.proofs.Common.{rules, ◌≡◌, ◌<◌, ◌∷◌, List, length, map, sym, ap, ◌∙◌, subst}
use Rattle.std.specs.List.{AllByRecursion}
use Rattle.turn_lock.specs.Seen.{LockSeen, PassSeen}
use Rattle.lock_row.specs.Rows.{RowSeen, locks_of}
use Rattle.lock_row.proofs.Cuts.{cut_at}
use Rattle.lock_row.proofs.Rest.{tails_of_locks}
use Rattle.lock_row.proofs.row.Row.close_first.Goals as goal

pub returns-clause-closed : goal.returns-clause-closed
returns-clause-closed g c =
    let L = LockSeen g.row.S-Plan.Denot in
    let turns = c.self.inside.turns.items in
    let turn = c.remove-turn.result in
    let some : 0 < length turns = search rules in
    let cut : turns ≡ turn ∷ c.remove-turn.new.self.items = cut_at turns 0 turn some c.remove-turn.ensures.value ∙ ap (λ l. turn ∷ l) (sym c.remove-turn.ensures.items) in
    (turn.lock, sym (ap (λ (r : RowSeen g.row.S-Plan.Denot). r.locks) c.self.view_is) ∙ ap (map (λ (l : L). l.lock)) cut, c.end_column.ensures.closed)

pub returns-clause-this_row : goal.returns-clause-this_row
returns-clause-this_row g c =
    let P = PassSeen g.row.S-Plan.Denot g.row.S-Entry.Denot in
    let closed = returns-clause-closed g c in
    let left = map (λ (l : LockSeen g.row.S-Plan.Denot). l.lock) c.remove-turn.new.self.items in
    subst (AllByRecursion (λ (row : List P). locks_of row ≡ left)) (sym c.end_column.ensures.rows)
    (tails_of_locks closed.0 left c.args.rows.now.items (subst (λ ls. AllByRecursion (λ (row : List P). locks_of row ≡ ls) c.args.rows.now.items) closed.1 c.requires.this_row))
