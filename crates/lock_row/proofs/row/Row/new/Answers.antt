use Rattle.std.proofs.Common.{rules, ◌≡◌, List, length, vec_len, [], ◌∷◌, ◌++◌, map, ap, ◌∙◌, sym, subst}
use Rattle.std.specs.List.{AllByRecursion, range_with_len}
use Rattle.turn_lock.specs.Seen.{LockSeen, PassSeen}
use Rattle.std.proofs.lemmas.List.{append-nil}
use Rattle.std.proofs.lemmas.List.FromFn.{length-map-range_with_len}
use Rattle.lock_row.specs.Rows.{fresh_row, locks_of, plans_of}
use Rattle.lock_row.proofs.Growing.{rows_step, plans_step, each_push, none_left, fresh_fits}
use Rattle.lock_row.proofs.row.Row.new.Goals as goal

pub loop-value-preserved : goal.loop-value-preserved
loop-value-preserved g c =
    let inv = c.loop-value.invariant in
    let turn = c.in_ok-turn.turn in
    let rest : c.loop-value.value-iterator.rest.items ≡ c.in-Some.value ∷ c.next.new.self.rest.items = search rules in
    let pushed = c.push_reserved.ensures.items in (
      rows_step c.args.passes c.loop-value.turns.items turn c.push_reserved.new.self.items c.in_ok-turn.made.items c.loop-value.rows.items c.add_each.new.rows.items inv.0 c.in_ok-turn.ensures.passes c.in_ok-add_each.ensures pushed,
      plans_step c.loop-value.turns.items turn g.S.Held.plan c.push_reserved.new.self.items c.loop-value.value-iterator.rest.items c.next.new.self.rest.items c.in-Some.value _ inv.1 rest c.in_ok-turn.ensures.plan pushed,
      (let a = each_push (λ (t : LockSeen g.row.S-Plan.Denot). t.passes ≡ c.args.passes) c.loop-value.turns.items turn inv.2 c.in_ok-turn.ensures.count in rw pushed a),
      (let a : AllByRecursion (λ x. g.S.Held.log x ≡ []) (c.in-Some.value ∷ c.next.new.self.rest.items) = subst (AllByRecursion (λ x. g.S.Held.log x ≡ [])) rest inv.3 in a.1),
      search rules,
      search rules,
    )

pub returns-clause-plans : goal.returns-clause-plans
returns-clause-plans g c =
    let none : c.loop-value.value-iterator.rest.items ≡ [] = none_left c.loop-value.value-iterator.rest.items (search rules) in
    sym (append-nil _) ∙ sym (ap (λ l. plans_of (map (λ (t : LockSeen g.row.S-Plan.Denot). t.lock) c.loop-value.turns.items) ++ map g.S.Held.plan l) none) ∙ c.loop-value.invariant.1

pub returns-clause-this_row : goal.returns-clause-this_row
returns-clause-this_row g c =
    let P = PassSeen g.row.S-Plan.Denot g.row.S-Entry.Denot in
    let locks = map (λ (t : LockSeen g.row.S-Plan.Denot). t.lock) c.loop-value.turns.items in
    subst (AllByRecursion (λ (row : List P). locks_of row ≡ locks)) (sym c.loop-value.invariant.0) (fresh_fits g.row.S-Entry.Denot locks (range_with_len 0 c.args.passes))

pub returns-clause-all : goal.returns-clause-all
returns-clause-all g c =
    let locks = map (λ (t : LockSeen g.row.S-Plan.Denot). t.lock) c.loop-value.turns.items in
    let long : vec_len c.loop-value.rows ≡ length c.loop-value.rows.items = search rules in
    long ∙ ap length c.loop-value.invariant.0 ∙ length-map-range_with_len (fresh_row {E = g.row.S-Entry.Denot} locks) 0 c.args.passes
