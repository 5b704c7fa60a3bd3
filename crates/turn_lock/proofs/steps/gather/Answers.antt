use Rattle.std.proofs.Common.{rules, ◌≡◌, [], ◌∙◌}
use Rattle.turn_lock.proofs.Gathering.{first_in, next_in, last_ours, all_in}
use Rattle.turn_lock.proofs.steps.gather.Goals as goal

pub loop-pass-init : goal.loop-pass-init
loop-pass-init g c =
    let op = c.into_seat-keeper.ensures in
    let all = c.args.passes.items in (
      op.table.0 ∙ last_ours c.args.shared.now.table_id c.pop.new.self.items all c.in-Some.last c.requires.mine c.in-Some.ensures.items,
      first_in _ c.pop.new.self.items all c.in-Some.last _ c.requires.mine c.in-Some.ensures.items op.me,
    )

pub take_in-requires-clause-mine : goal.take_in-requires-clause-mine
take_in-requires-clause-mine g c =
    let inv = c.loop-pass.invariant in
    (inv.0, last_ours _ c.pop-in-loop-pass.new.self.items _ c.in-Some-pop.pass inv.1.ours c.in-Some-pop.ensures.items, c.requires.words)

pub loop-pass-preserved : goal.loop-pass-preserved
loop-pass-preserved g c =
    let inv = c.loop-pass.invariant in
    let took = c.take_in.ensures in
    (took.same ∙ inv.0, next_in _ c.pop-in-loop-pass.new.self.items c.args.passes.items c.in-Some-pop.pass _ c.loop-pass.passes.items c.loop-pass.keeper.me inv.1 c.in-Some-pop.ensures.items took.both)

pub returns-clause-all : goal.returns-clause-all
returns-clause-all g c =
    let none : c.loop-pass.passes.items ≡ [] = search rules in
    all_in _ c.loop-pass.passes.items c.args.passes.items c.loop-pass.keeper.me none c.loop-pass.invariant.1
