use Rattle.std.proofs.Common.{rules, ◌≡◌, suc, ◌-◌, ◌∷◌, [], List, take, drop, length, sym, ap, ◌∙◌, refl, arith}
use Rattle.turn_lock.specs.Seen.{PassSeen}
use Rattle.turn_lock.specs.Ends.{EndingSeen, handed_more}
use Rattle.lock_row.specs.Rows.{locks_of}
use Rattle.lock_row.specs.Columns.{heads}
use Rattle.lock_row.proofs.Handing.{none_handed, none_heads, handed_rows, handed_heads, row_has, first_lock, heads_long, closed_with}
use Rattle.lock_row.proofs.rows.end_column.Goals as goal

pub loop-number-init : goal.loop-number-init
loop-number-init g c =
    let E = EndingSeen g.row.S-Plan.Denot g.row.S-Entry.Denot in
    let turn = c.args.turn in
    let first = c.args.rows.now.items in
    let k = c.len-number.result in
    let x = c.take_first.result in
    let row = c.index_mut.result.now in
    let long : length first ≡ k = search rules in
    let next : suc (k - 1) ≡ k = omega (arith, c.len-number.ensures, c.requires.some) in
    let none = none_handed k first long in (
      handed_rows k (k - 1) first first row none next c.index_mut.ensures.value x c.take_first.new.self _ c.take_first.ensures refl,
      c.end_with-ending.ensures
          ∙ ap {B = E} (λ l. record { lock = turn.lock; passes = turn.passes; handed = l })
          (ap (λ l. x ∷ l) (sym (none_heads k first long)) ∙ handed_heads k (k - 1) first first row none next c.index_mut.ensures.value x c.take_first.new.self c.take_first.ensures),
    )

pub hand_in-ending-requires : goal.hand_in-ending-requires
hand_in-ending-requires g c =
    let P = PassSeen g.row.S-Plan.Denot g.row.S-Entry.Denot in
    let inv = c.loop-number.invariant in
    let n = c.loop-number.number in
    let row = c.index_mut-in-loop-number.result.now in
    let next : suc (n - 1) ≡ n = omega (arith, c.loop-number-test.true) in
    record {
      this_lock =
          first_lock c.args.turn.lock row c.take_first-in-loop-number.result c.take_first-in-loop-number.new.self c.take_first-in-loop-number.ensures
          (row_has n (n - 1) c.args.rows.now.items c.loop-number.rows.items row inv.0 next c.index_mut-in-loop-number.ensures.value (λ (r : List P). take 1 (locks_of r) ≡ c.args.turn.lock ∷ []) c.requires.this_lock)
          ∙ sym (ap (λ (e : EndingSeen g.row.S-Plan.Denot g.row.S-Entry.Denot). e.lock) inv.1);
    }

pub loop-number-preserved : goal.loop-number-preserved
loop-number-preserved g c =
    let E = EndingSeen g.row.S-Plan.Denot g.row.S-Entry.Denot in
    let turn = c.args.turn in
    let first = c.args.rows.now.items in
    let inv = c.loop-number.invariant in
    let n = c.loop-number.number in
    let x = c.take_first-in-loop-number.result in
    let xs = c.take_first-in-loop-number.new.self in
    let row = c.index_mut-in-loop-number.result.now in
    let next : suc (n - 1) ≡ n = omega (arith, c.loop-number-test.true) in (
      handed_rows n (n - 1) first c.loop-number.rows.items row inv.0 next c.index_mut-in-loop-number.ensures.value x xs _ c.take_first-in-loop-number.ensures refl,
      c.hand_in-ending.ensures ∙ ap (handed_more x) inv.1
          ∙ ap {B = E} (λ l. record { lock = turn.lock; passes = turn.passes; handed = l }) (handed_heads n (n - 1) first c.loop-number.rows.items row inv.0 next c.index_mut-in-loop-number.ensures.value x xs c.take_first-in-loop-number.ensures),
    )

pub end-requires : goal.end-requires
end-requires g c =
    let E = EndingSeen g.row.S-Plan.Denot g.row.S-Entry.Denot in
    let first = c.args.rows.now.items in
    let none : c.loop-number.number ≡ 0 = omega (arith, c.loop-number-test.false) in
    let long : length first ≡ c.args.turn.passes = search rules in
    record {
      all = ap (λ (e : E). length e.handed) c.loop-number.invariant.1 ∙ ap (λ n. length (heads (drop n first))) none ∙ heads_long c.args.turn.lock first c.requires.this_lock ∙ long
          ∙ sym (ap (λ (e : E). e.passes) c.loop-number.invariant.1);
    }

pub returns-clause-closed : goal.returns-clause-closed
returns-clause-closed g c =
    let E = EndingSeen g.row.S-Plan.Denot g.row.S-Entry.Denot in
    let H = g.S.Held in
    let turn = c.args.turn in
    let first = c.args.rows.now.items in
    let none : c.loop-number.number ≡ 0 = omega (arith, c.loop-number-test.false) in
    let is : c.loop-number.ending ≡ record { lock = turn.lock; passes = turn.passes; handed = heads first } =
    c.loop-number.invariant.1 ∙ ap {B = E} (λ n. record { lock = turn.lock; passes = turn.passes; handed = heads (drop n first) }) none in
    closed_with H.plan H.log H.by c.loop-number.ending (record { lock = turn.lock; passes = turn.passes; handed = heads first }) c.end.result is
    c.end.ensures.plan c.end.ensures.seen c.end.ensures.own c.end.ensures.numbers c.end.ensures.entries
