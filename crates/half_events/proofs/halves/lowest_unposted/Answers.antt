use Rattle.std.proofs.Common.{rules, ◌≡◌, ◌<◌, false, true, sym, ◌∙◌, arith}
use Rattle.std.proofs.lemmas.Bool.{false≢true}
use Rattle.half_events.proofs.Workers.{unposted-here, unposted-next}
use Rattle.half_events.proofs.halves.lowest_unposted.Goals as goal

pub returns-then-not-posted : goal.returns-then-not-posted
returns-then-not-posted c =
    let below : c.loop-tile.tile < c.args.tiles = omega arith in
    let open_ : c.posted.result ≡ false = search rules in
    unposted-here c.args.state.now.log c.loop-tile.tile c.args.tiles below (c.requires.once c.loop-tile.tile)
    (λ e. false≢true (sym open_ ∙ c.posted.ensures.1 e))
    ∙ c.loop-tile.invariant

pub loop-tile-preserved : goal.loop-tile-preserved
loop-tile-preserved c =
    let below : c.loop-tile.tile < c.args.tiles = omega arith in
    let there : c.posted.result ≡ true = search rules in
    unposted-next c.args.state.now.log c.loop-tile.tile c.args.tiles below (c.posted.ensures.0 there) ∙ c.loop-tile.invariant
