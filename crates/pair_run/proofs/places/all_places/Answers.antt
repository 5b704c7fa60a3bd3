use Rattle.std.proofs.Common.{◌+◌, ◌<◌, ◌∙◌, ap, sym, subst, length, arith}
use Rattle.std.specs.List.{All}
use Rattle.std.proofs.lemmas.List.{length_push}
use Rattle.std.proofs.lemmas.List.Elements.{All-push}
use Rattle.pair_run.specs.Places.{picked}
use Rattle.pair_run.proofs.Lists.{first_places}
use Rattle.pair_run.proofs.places.all_places.Goals as goal

pub loop-k-preserved : goal.loop-k-preserved
loop-k-preserved c =
    let items = c.in_ok-push.ensures.items in
    let before = c.loop-k.live.items in
    let k = c.loop-k.k in
    let below : k < c.args.count = omega (arith, c.loop-k-test.true) in
    record {
      front = λ batch e. ap (picked batch) items ∙ first_places batch before k (c.loop-k.invariant.front batch e);
      places = subst (All (λ j. j < c.args.count)) (sym items) (All-push (λ j. j < c.args.count) before k c.loop-k.invariant.places below);
      count = ap length items ∙ length_push before k ∙ ap (λ n. n + 1) c.loop-k.invariant.count;
    }
