use Rattle.std.proofs.Common.{rules, refl}
use Rattle.phase_workers.proofs.Steps.{swept_none, swept_more}
use Rattle.phase_workers.proofs.sweeping.sweep.Goals as goal

pub loop-tile-init : goal.loop-tile-init
loop-tile-init g c = (refl, c.requires.room, swept_none _ _, c.requires.this_cache)

pub loop-tile-preserved : goal.loop-tile-preserved
loop-tile-preserved g c = (
  search rules,
  search rules,
  rw c.added-swept.ensures (swept_more _ _ _ _ _ _ _ c.loop-tile.invariant.2 c.post_missing-posted.ensures.log),
  search rules,
)
