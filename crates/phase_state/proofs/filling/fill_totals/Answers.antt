use Rattle.std.proofs.Common.{◌<◌, ◌∙◌, map, length, arith}
use Rattle.definitions.specs.Field.{total_by}
use Rattle.phase_state.specs.Sums.{nodes_of, share_at}
use Rattle.phase_state.proofs.Steps.{map_step}
use Rattle.phase_state.proofs.filling.fill_totals.Goals as goal

pub loop-prefix-preserved : goal.loop-prefix-preserved
loop-prefix-preserved c =
    let plan = c.args.plan.now in
    let below : c.loop-prefix.prefix-index < length c.args.candidates.now = omega arith in
    record {
      room = c.push_reserved.ensures.capacity ∙ c.loop-prefix.invariant.room;
      made = map_step (λ q. total_by (λ s. (nodes_of plan.side s q).d) (map (share_at plan.shares) c.args.live.now)) c.args.candidates.now c.loop-prefix.prefix-index
          c.prefix-item.result _ _ _ below c.prefix-item.is c.loop-prefix.invariant.made c.total_at.ensures.value c.push_reserved.ensures.items;
    }
