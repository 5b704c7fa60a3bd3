use Rattle.std.proofs.Common.{rules, ◌≡◌, ◌<◌, ◌∙◌, ap, sym, length, slice_index_or, false}
use Rattle.tile_claims.specs.Plans.{tiles_of}
use Rattle.phase_state.specs.Loops.{sums_with, totals_with}
use Rattle.phase_state.proofs.Lists.{written}
use Rattle.phase_state.proofs.Posts.{room_left, fits_here, posted, sums_count, totals_count}
use Rattle.phase_state.proofs.state.PhaseState.post.Goals as goal

pub add_part-requires : goal.add_part-requires
add_part-requires c =
    let f = fits_here _ _ _ _ _ _ c.self.invariant c.args.tile c.tile-place.result c.args.part.now c.tile-place.ensures.exact c.tile-place.ensures.part (search rules) in
    search rules

pub push_reserved-requires : goal.push_reserved-requires
push_reserved-requires c =
    let less : c.args.tile < tiles_of c.self.inside.plan.tiles = search rules in
    let is : slice_index_or c.self.inside.marks.items c.args.tile false ≡ false = search rules in
    let left = room_left _ _ _ _ _ _ c.self.invariant c.args.tile less is in
    search rules

pub invariant_of-self : goal.invariant_of-self
invariant_of-self c =
    let less : c.args.tile < tiles_of c.self.inside.plan.tiles = search rules in
    let is : slice_index_or c.self.inside.marks.items c.args.tile false ≡ false = search rules in
    let t = c.tile-place.result in
    let part = c.args.part.now in
    let sums = c.add_part.ensures.sums ∙ ap (sums_with t part) c.as_mut_slice.ensures.value in
    let totals = c.add_part.ensures.totals ∙ ap (totals_with t part) c.as_mut_slice-2.ensures.value in
    let after = posted _ _ _ _ _ _ c.self.invariant c.args.number c.args.tile t part _ _ less is c.tile-place.ensures.exact c.tile-place.ensures.part (search rules) sums totals in
    let old_sums = ap length c.self.invariant.sums_are ∙ sums_count c.self.inside.plan _ in
    let old_totals = ap length c.self.invariant.totals_are ∙ totals_count c.self.inside.plan _ in
    let new_sums = ap length after.sums_are ∙ sums_count c.self.inside.plan _ in
    let new_totals = ap length after.totals_are ∙ totals_count c.self.inside.plan _ in
    let sums_long : c.self.inside.sums.len ≡ length c.self.inside.sums.items = search rules in
    let totals_long : c.self.inside.totals.len ≡ length c.self.inside.totals.items = search rules in
    let back_sums = written c.self.inside.sums.len c.add_part.new.sums c.self.inside.sums.items (new_sums ∙ sym old_sums) sums_long in
    let back_totals = written c.self.inside.totals.len c.add_part.new.totals c.self.inside.totals.items (new_totals ∙ sym old_totals) totals_long in
    rw (c.push_reserved.ensures.items, c.push_reserved.ensures.capacity, back_sums, back_totals) after
