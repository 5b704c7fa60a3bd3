use Rattle.std.proofs.Common.{◌≡◌, ◌+◌, ◌<◌, ◌∙◌, false, get_or, length, refl, arith}
use Rattle.std.specs.Prelude.{if◌then◌else◌}
use Rattle.plain_walk.proofs.WalkSteps.{count-step, at_most_one, byte_is}
use Rattle.plain_walk.proofs.live.live_count.Goals as goal

pub loop-k-preserved : goal.loop-k-preserved
loop-k-preserved c =
    let b = get_or c.args.alive.now c.loop-k.k false in
    let below : c.loop-k.k < length c.args.alive.now = omega arith in
    let one : c.from-count.result ≡ (if b then 1 else 0) = c.from-count.ensures ∙ byte_is b in
    let most = at_most_one b in
    record {
      live = count-step c.loop-k.k c.args.alive.now c.args.batch.now b c.loop-k.count (c.loop-k.count + c.from-count.result) below c.requires.flags refl c.loop-k.invariant.live (cc);
      most = omega arith;
    }
