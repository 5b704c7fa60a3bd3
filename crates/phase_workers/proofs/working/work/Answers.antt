use Rattle.std.proofs.Common.{rules, ◌≡◌, false, sym, subst}
use Rattle.phase_state.specs.Rooms.{HasRoom}
use Rattle.phase_workers.proofs.working.work.Goals as goal

pub loop-preserved : goal.loop-preserved
loop-preserved g c =
    let tiles = c.args.shared.now.level.now.plan.tiles in
    let room = c.once-more.ensures.room in
    let more : c.once-more.new.drawer.had_none ≡ false = search rules in (
      (tt, tt),
      c.once-more.ensures.cached,
      c.once-more.ensures.mine.1,
      more,
      c.once-more.ensures.mine.0,
      subst (λ n. HasRoom tiles n c.once-more.new.room.candidates) (sym room.0) (subst (λ n. HasRoom tiles c.loop.room.reports n) (sym room.1) c.loop.invariant.5),
      c.once-more.ensures.did,
    )
