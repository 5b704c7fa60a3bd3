use Rattle.std.proofs.Common.{◌≡◌, ◌+◌, ◌<◌, ◌++◌, ◌∙◌, ap, sym, true, false, get_or, length, drop, arith, subst}
use Rattle.std.specs.Prelude.{◌==◌}
use Rattle.std.specs.List.{All}
use Rattle.std.proofs.lemmas.List.Elements.{All-push}
use Rattle.std.proofs.lemmas.List.{length_push}
use Rattle.walk_definitions.specs.Heard.{kept}
use Rattle.pair_run.specs.Places.{picked}
use Rattle.pair_run.proofs.Lists.{kept_step, read_at}
use Rattle.pair_run.proofs.survival.kept_places.Goals as goal
use Rattle.pair_run.proofs.survival.kept_places.Goals.{then-eq+in_ok-push, else-eq}

pub loop-k-preserved : goal.loop-k-preserved
loop-k-preserved c =
    let live = c.args.live.now in
    let numbers = c.args.numbers.now in
    let i = c.loop-k.k in
    let below : i < length live = omega arith in
    let place = get_or live i 0 in
    let number = c.index-numbers-k.result in
    elim c.if-eq.branch [
      | then-eq+in_ok-push w ↦
          let is : (number == 0) ≡ true = ap (λ z. number == z) (sym c.zero.ensures.value) ∙ sym c.eq.ensures ∙ w.if-eq.true in
          let items = ap (λ v. v.items) w.still-is ∙ w.in_ok-push.ensures.items in
          record {
            kept = λ batch all. ap (λ ks. picked batch ks ++ kept (picked batch (drop (i + 1) live)) (drop (i + 1) numbers)) items
                ∙ kept_step batch live numbers c.loop-k.still.items (kept (picked batch live) numbers) i place number true below c.requires.count
                (read_at i live 0 below) c.index-numbers-k.is is all (c.loop-k.invariant.kept batch all);
            among = λ n all. subst (All (λ k. k < n)) (sym items) (All-push (λ k. k < n) c.loop-k.still.items place (c.loop-k.invariant.among n all) (all i 0 below));
            most = let long = ap (λ ks. length ks) items in let more = length_push c.loop-k.still.items place in let most = c.loop-k.invariant.most in omega arith;
          }
      | else-eq w ↦
          let is : (number == 0) ≡ false = ap (λ z. number == z) (sym c.zero.ensures.value) ∙ sym c.eq.ensures ∙ w.if-eq.false in
          let items = ap (λ v. v.items) w.still-is in
          record {
            kept = λ batch all. ap (λ ks. picked batch ks ++ kept (picked batch (drop (i + 1) live)) (drop (i + 1) numbers)) items
                ∙ kept_step batch live numbers c.loop-k.still.items (kept (picked batch live) numbers) i place number false below c.requires.count
                (read_at i live 0 below) c.index-numbers-k.is is all (c.loop-k.invariant.kept batch all);
            among = λ n all. subst (All (λ k. k < n)) (sym items) (c.loop-k.invariant.among n all);
            most = let long = ap (λ ks. length ks) items in let most = c.loop-k.invariant.most in omega arith;
          }
    ]
