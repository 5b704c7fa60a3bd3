use Rattle.std.proofs.Common.{◌≡◌, ◌+◌, ◌<◌, ◌++◌, ◌∷◌, [], ◌∙◌, ap, take, false, get_or, length, refl, arith, length-append}
use Rattle.walk_definitions.specs.Walk.{passes}
use Rattle.plain_walk.specs.Chosen.{chosen}
use Rattle.plain_walk.proofs.WalkSteps.{checked-step}
use Rattle.plain_walk.proofs.live.checked.Goals as goal

pub loop-k-preserved : goal.loop-k-preserved
loop-k-preserved c =
    let below : c.loop-k.k < length c.args.alive.now = omega arith in
    let pushed : c.push.new.self.items ≡ c.loop-k.next.items ++ c.still.result ∷ [] = c.in_ok-push.ensures.items in
    record {
      long = ap length pushed ∙ length-append c.loop-k.next.items (c.still.result ∷ []) ∙ ap (λ n. n + 1) c.loop-k.invariant.long;
      live = ap (λ bs. chosen bs (take (c.loop-k.k + 1) c.args.batch.now)) pushed
          ∙ checked-step (passes c.args.settings.now c.args.level c.args.candidates.now) c.loop-k.k c.args.alive.now c.loop-k.next.items c.args.batch.now
          (get_or c.args.alive.now c.loop-k.k false) c.index-batch-k.result c.still.result below c.requires.flags c.loop-k.invariant.long refl c.index-batch-k.is c.loop-k.invariant.live c.still.ensures.value;
    }
