use Rattle.std.proofs.Common.{◌≡◌, ◌+◌, ◌-◌, ap, arith}
use Rattle.std.specs.Prelude.{slice_index_or}
use Rattle.definitions.specs.Generation.{joint_correlation}
use Rattle.generation_laws.specs.Points.{coins_at, no_coins}
use Rattle.idpf_gen.proofs.WordSteps.{words0-more, words1-more}
use Rattle.idpf_gen.proofs.pairs.words_of.Goals as goal

pub loop-place-preserved : goal.loop-place-preserved
loop-place-preserved g c =
    let place = c.loop-place.place in
    let levels = c.args.coins.now.levels in
    let same : place + 1 - 1 ≡ place = omega arith in
    let at : coins_at c.args.coins.now (place + 1) ≡ slice_index_or levels place no_coins = ap (λ i. slice_index_or levels i no_coins) same in
    let made = c.words_of_level-of_zero in
    record {
      zero = words0-more c.loop-place.zero.items _ c.push.new.self.items c.loop-place.path made.result.2 c.args.alpha.now levels place
          c.bit.result (coins_at c.args.coins.now (place + 1)) made.result.0
          (omega arith) (omega arith) c.bit.ensures at made.ensures.zero made.ensures.path c.in_ok-push.ensures.items c.loop-place.invariant.zero;
      one = words1-more (joint_correlation c.args.coins.now) c.loop-place.one.items _ c.push-in-loop-place.new.self.items c.loop-place.path made.result.2
          c.args.alpha.now levels place c.bit.result (coins_at c.args.coins.now (place + 1)) made.result.1
          (omega arith) (omega arith) c.bit.ensures at made.ensures.one made.ensures.path c.in_ok-push-2.ensures.items c.loop-place.invariant.one;
    }
