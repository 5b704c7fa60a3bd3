use Rattle.std.proofs.Common.{rules, ◌≡◌, ◌+◌, ◌<◌, suc, List, ◌++◌, length, map, vec_len, ap, sym, ◌∙◌, subst, arith}
use Rattle.std.specs.List.{AllByRecursion, range_with_len}
use Rattle.lock_row.specs.Columns.{tails}
use Rattle.core_definitions.specs.Phase.{Posting}
use Rattle.phase_state.specs.Logs.{AreApart}
use Rattle.phase_state.specs.Phases.{StateSeen}
use Rattle.level_totals.specs.Stripes.{stripes_of, stripe_plan}
use Rattle.level_totals.specs.Levels.{LevelSeen, LevelPassSeen}
use Rattle.level_totals.proofs.Locks.{some_stripe, lock_count}
use Rattle.level_totals.proofs.Closing.{Left, Joined, none_joined, all_joined, others_left, same_plan, are_apart, next_joined}
use Rattle.level_totals.proofs.Finishing.{all_seen, all_owned, all_low, all_numbered}
use Rattle.level_totals.proofs.level.Level.finish.Goals as goal

pub close_first-first-requires-clause-some : goal.close_first-first-requires-clause-some
close_first-first-requires-clause-some c =
    omega (arith, lock_count c.self.inside.plan c.self.inside.row.locks c.self.invariant.0, some_stripe c.self.inside.plan.tiles)

pub loop-init : goal.loop-init
loop-init c =
    let plan = c.self.inside.plan in
    let locks = c.self.inside.row.locks in
    let first = c.close_first-first in
    let all = lock_count plan locks c.self.invariant.0 in
    let holds : Left plan 0 locks = c.self.invariant.0 ∙ ap (λ n. map (stripe_plan plan) (range_with_len 0 n)) (sym all) in
    let none = none_joined plan.tiles c.args.passes.items in
    let tiles = c.into_state-state.ensures.tiles in
    rw (← c.self.view_is) (record {
      plan = ap (λ (s : StateSeen). s.plan) c.into_state-state.ensures.state ∙ same_plan plan c.args.passes.items 0 c.args.passes.items _ locks first.new.self.locks first.result holds none first.ensures.closed tiles;
      left = others_left plan c.args.passes.items 0 c.args.passes.items _ locks first.new.self.locks first.result holds none first.ensures.closed tiles;
      count = search rules;
      mine = first.ensures.this_row;
      all = first.ensures.all;
      joined =
          subst (λ (rows : List LevelPassSeen). Joined plan.tiles c.args.passes.items 1 rows c.into_state-state.result.log) (sym first.ensures.rows)
          (subst (λ (s : StateSeen). Joined plan.tiles c.args.passes.items 1 (tails c.args.passes.items) s.log) (sym c.into_state-state.ensures.state)
          (next_joined plan c.args.passes.items 0 c.args.passes.items _ locks first.new.self.locks first.result holds none first.ensures.closed tiles));
    })

pub join-requires-clause-plan : goal.join-requires-clause-plan
join-requires-clause-plan c =
    let inv = c.loop.invariant in
    let next = c.close_first-next in
    ap (λ (s : StateSeen). s.plan) c.into_state.ensures.state
    ∙ same_plan c.args.self.plan c.args.passes.items (c.loop.counter + 1) c.loop.passes.items c.loop.state.log c.loop.row.locks next.new.self.locks next.result inv.left inv.joined next.ensures.closed c.into_state.ensures.tiles
    ∙ sym inv.plan

pub join-requires-clause-apart : goal.join-requires-clause-apart
join-requires-clause-apart c =
    let inv = c.loop.invariant in
    let next = c.close_first-next in
    subst (λ (s : StateSeen). AreApart c.loop.state.log s.log) (sym c.into_state.ensures.state)
    (are_apart c.args.self.plan c.args.passes.items (c.loop.counter + 1) c.loop.passes.items c.loop.state.log c.loop.row.locks next.new.self.locks next.result inv.left inv.joined next.ensures.closed c.into_state.ensures.tiles)

pub loop-preserved : goal.loop-preserved
loop-preserved c =
    let inv = c.loop.invariant in
    let next = c.close_first-next in
    let passes = c.args.passes.items in
    let plan = c.args.self.plan in
    let tiles = c.into_state.ensures.tiles in
    let log = c.join.ensures.log ∙ ap (λ (s : StateSeen). c.loop.state.log ++ s.log) c.into_state.ensures.state in
    let count : length c.loop.row.locks ≡ suc (length next.new.self.locks) = ap length next.ensures.closed.1 in
    record {
      plan = c.join.ensures.plan ∙ inv.plan;
      left = others_left plan passes (c.loop.counter + 1) c.loop.passes.items c.loop.state.log c.loop.row.locks next.new.self.locks next.result inv.left inv.joined next.ensures.closed tiles;
      count = omega (arith, count, inv.count);
      mine = next.ensures.this_row;
      all = next.ensures.all;
      joined =
          subst (λ (rows : List LevelPassSeen). Joined plan.tiles passes (c.loop.counter + 1 + 1) rows c.join.new.self.log) (sym next.ensures.rows)
          (subst (Joined plan.tiles passes (c.loop.counter + 1 + 1) (tails c.loop.passes.items)) (sym log)
          (next_joined plan passes (c.loop.counter + 1) c.loop.passes.items c.loop.state.log c.loop.row.locks next.new.self.locks next.result inv.left inv.joined next.ensures.closed tiles));
    }

pub returns-clause-stripes : goal.returns-clause-stripes
returns-clause-stripes c =
    let first = c.close_first-first in
    let all = lock_count c.self.inside.plan c.self.inside.row.locks c.self.invariant.0 in
    let count : length c.self.inside.row.locks ≡ suc (length first.new.self.locks) = ap length first.ensures.closed.1 in
    let same = ap (λ (l : LevelSeen). stripes_of l.plan.tiles) c.self.view_is in
    rw (c.of.ensures) (all_joined c.args.self.plan.tiles c.args.passes.items (c.loop.counter + 1) c.loop.passes.items c.loop.state.log (omega (arith, all, count, same, c.loop.invariant.count)) c.loop.invariant.joined)

pub returns-clause-seen : goal.returns-clause-seen
returns-clause-seen c =
    let count = subst (λ (l : LevelSeen). length l.locks ≡ stripes_of l.plan.tiles) c.self.view_is (lock_count c.self.inside.plan c.self.inside.row.locks c.self.invariant.0) in
    all_seen _ _ _ _ (returns-clause-stripes c) count c.requires.mine

pub returns-clause-own : goal.returns-clause-own
returns-clause-own c =
    let count = subst (λ (l : LevelSeen). length l.locks ≡ stripes_of l.plan.tiles) c.self.view_is (lock_count c.self.inside.plan c.self.inside.row.locks c.self.invariant.0) in
    all_owned _ _ _ _ (returns-clause-stripes c) count c.requires.mine

pub returns-clause-numbers : goal.returns-clause-numbers
returns-clause-numbers c =
    let count = subst (λ (l : LevelSeen). length l.locks ≡ stripes_of l.plan.tiles) c.self.view_is (lock_count c.self.inside.plan c.self.inside.row.locks c.self.invariant.0) in
    all_numbered _ _ _ _ (returns-clause-stripes c) count c.requires.mine

pub returns-clause-entries : goal.returns-clause-entries
returns-clause-entries c =
    let count = subst (λ (l : LevelSeen). length l.locks ≡ stripes_of l.plan.tiles) c.self.view_is (lock_count c.self.inside.plan c.self.inside.row.locks c.self.invariant.0) in
    let long : length c.args.passes.items ≡ vec_len c.args.passes = search rules in
    subst (λ n. AllByRecursion (λ (e : Posting). e.number < n) c.of.result.log) long (all_low _ _ _ _ (returns-clause-stripes c) count c.requires.mine)
