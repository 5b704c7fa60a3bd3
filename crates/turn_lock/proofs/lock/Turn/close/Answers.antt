use Rattle.std.proofs.Common.{rules, ◌≡◌, ◌<◌, Option, length, map, vec_len, ap, sym, ◌∙◌, subst}
use mathlib.Core.List.{IsPrefix}
use Rattle.std.specs.List.{AllByRecursion}
use Rattle.atomic_table.specs.Table.{Me}
use Rattle.turn_lock.specs.declared.views.View.{View}
use Rattle.turn_lock.specs.Logs.{entries_of}
use Rattle.turn_lock.specs.Seen.{LockId, PassSeen}
use Rattle.turn_lock.specs.Seats.{Knows, mine_of}
use Rattle.turn_lock.specs.Kept.{IsWhole}
use Rattle.list_totals.proofs.Elements.{each_map}
use Rattle.turn_lock.proofs.Lists.{each_mine, numbered_mine}
use Rattle.turn_lock.proofs.lock.Turn.close.Given
use Rattle.turn_lock.proofs.lock.Turn.close.Goals as goal

-- the keeper has every pass, so it learns the whole log
whole : (g : Given.Over) (c : goal.After-finish g)
    → IsWhole g.S.Held.plan g.S.Held.log g.S.Held.by (g.S.Held.plan c.into_table-table.result.shared.key.first.value) (length c.args.passes.items) (map mine_of c.args.passes.items) c.finish.result
whole g c =
    let H = g.S.Held in
    let M = Me (Option g.row.S.Denot) (View g.row.S-Plan.Denot g.row.S-Entry.Denot) in
    let key = c.into_table-table.result.shared.key in
    let items = c.args.passes.items in
    let x = c.finish.result in
    let mine : c.gather-keeper.result.me.0.mine ≡ map mine_of items = ap (λ (m : M). m.0.mine) c.gather-keeper.ensures.all in
    let long : vec_len c.args.passes ≡ length items = search rules in
    let count : key.passes ≡ length items = c.into_table-table.ensures.key.1 ∙ sym c.requires.all ∙ long in
    subst (λ n. IsWhole H.plan H.log H.by (H.plan key.first.value) n (map mine_of items) x) count
    (subst (λ l. IsWhole H.plan H.log H.by (H.plan key.first.value) key.passes l x) mine c.finish.ensures)

pub gather-keeper-requires-clause-mine : goal.gather-keeper-requires-clause-mine
gather-keeper-requires-clause-mine g c =
    let tab = c.into_table-table.ensures in
    each_map (λ (d : PassSeen g.row.S-Plan.Denot g.row.S-Entry.Denot). d.lock ≡ c.args.self.lock) (λ d. d.lock.table ≡ c.into_table-table.result.shared.table_id)
    (λ d e. ap (λ (l : LockId g.row.S-Plan.Denot). l.table) e ∙ sym tab.counts.0) c.args.passes.items c.requires.this_lock

pub returns-clause-seen : goal.returns-clause-seen
returns-clause-seen g c =
    let log = g.S.Held.log c.finish.result in
    each_mine (Knows _ _ log) (λ pass. IsPrefix pass.seen log) (λ pass knows. knows.1) c.args.passes.items (whole g c).known

pub returns-clause-own : goal.returns-clause-own
returns-clause-own g c =
    let log = g.S.Held.log c.finish.result in
    each_mine (Knows _ _ log) (λ pass. pass.own ≡ entries_of g.S.Held.by pass.number log) (λ pass knows. knows.2) c.args.passes.items (whole g c).known

pub returns-clause-numbers : goal.returns-clause-numbers
returns-clause-numbers g c n = sym (numbered_mine n c.args.passes.items) ∙ (whole g c).numbers n

pub returns-clause-entries : goal.returns-clause-entries
returns-clause-entries g c =
    let long : length c.args.passes.items ≡ vec_len c.args.passes = search rules in
    subst (λ n. AllByRecursion (λ entry. g.S.Held.by entry < n) (g.S.Held.log c.finish.result)) long (whole g c).entries
