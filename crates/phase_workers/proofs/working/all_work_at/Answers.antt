use Rattle.std.proofs.Common.{rules, ◌≡◌, length}
use Rattle.phase_workers.proofs.Lists.{by_recursion, by_place, written}
use Rattle.phase_workers.proofs.working.all_work_at.Goals as goal

pub all_work-requires-clause-ready : goal.all_work-requires-clause-ready
all_work-requires-clause-ready g c κs within = rw c.as_mut_slice.ensures.value (by_place _ _ c.requires.ready)

pub returns-clause-done : goal.returns-clause-done
returns-clause-done g c =
    let long : length c.all_work.new.seats ≡ length c.args.seats.now.items = search rules in
    let all : c.args.seats.now.len ≡ length c.args.seats.now.items = search rules in
    rw (written _ _ _ long all) (by_recursion _ _ c.all_work.ensures.done)
