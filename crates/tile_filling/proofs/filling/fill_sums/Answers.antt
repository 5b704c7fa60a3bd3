use Rattle.std.proofs.Common.{rules, ◌<◌, ◌∙◌, sym, ap, get_or, map, length, arith}
use Rattle.definitions.specs.Evaluation.{Share, node}
use Rattle.definitions.specs.Sketch.{coin_key}
use Rattle.phase_state.proofs.Lists.{read_at}
use Rattle.phase_state.proofs.Steps.{share_step}
use Rattle.tile_filling.specs.Blocks.{sums_over}
use Rattle.tile_filling.proofs.Parts.{node_sums}
use Rattle.tile_filling.proofs.filling.fill_sums.Goals as goal

pub loop-place-preserved : goal.loop-place-preserved
loop-place-preserved g c =
    let i = c.loop-place.place-index in
    let b = c.args.block.now in
    let live = b.live.now in
    let share = c.index-block-place.result in
    let below : i < length live = omega arith in
    let place = get_or live i 0 in
    let made = sums_over b.side b.verify b.level b.first b.candidates.now in
    let nodes = c.nodes_of-count.ensures.nodes ∙ ap (λ (s : Share). map (node s b.side) b.candidates.now) (sym c.index-block-place.is) in
    let key = c.of-key.ensures.value ∙ ap (λ (s : Share). coin_key b.verify s.id) (c.share.view_is ∙ sym c.index-block-place.is) in
    let value = c.sums_of.ensures.value ∙ node_sums b.side b.verify b.level b.first b.candidates.now share _ _ key nodes in
    record {
      mine = c.nodes_of-count.ensures.this_cache;
      room = c.nodes_of-count.ensures.room ∙ c.loop-place.invariant.room;
      nodes = search rules;
      drawn = search rules;
      reports = c.push_reserved.ensures.capacity ∙ c.loop-place.invariant.reports;
      made = share_step b.shares.now live i place share below (read_at i live 0 below) (c.requires.block.live_places i 0 below) c.index-block-place.is
          made _ _ _ c.loop-place.invariant.made value c.push_reserved.ensures.items;
    }
