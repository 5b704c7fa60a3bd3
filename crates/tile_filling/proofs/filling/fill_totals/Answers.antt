use Rattle.std.proofs.Common.{rules, ◌<◌, ◌∙◌, refl, sym, ap, get_or, map, length, arith}
use Rattle.definitions.specs.Evaluation.{Share, node}
use Rattle.phase_state.proofs.Lists.{read_at}
use Rattle.tile_filling.proofs.Parts.{no_totals, more_totals}
use Rattle.tile_filling.proofs.filling.fill_totals.Goals as goal

pub loop-place-init : goal.loop-place-init
loop-place-init g c =
    let b = c.args.block.now in
    record { mine = c.requires.this_cache; room = refl; nodes = refl; made = c.requires.totals ∙ no_totals b.side b.shares.now b.candidates.now }

pub loop-place-preserved : goal.loop-place-preserved
loop-place-preserved g c =
    let i = c.loop-place.place-index in
    let b = c.args.block.now in
    let live = b.live.now in
    let below : i < length live = omega arith in
    let place = get_or live i 0 in
    let made = c.nodes_of-count.ensures.nodes ∙ ap (λ (s : Share). map (node s b.side) b.candidates.now) (sym c.index-block-place.is) in
    record {
      mine = c.nodes_of-count.ensures.this_cache;
      room = c.nodes_of-count.ensures.room ∙ c.loop-place.invariant.room;
      nodes = search rules;
      made = more_totals b.side b.shares.now live i place c.index-block-place.result below (read_at i live 0 below) (c.requires.block.live_places i 0 below) c.index-block-place.is
          b.candidates.now _ _ _ made c.loop-place.invariant.made c.add_values.ensures;
    }
