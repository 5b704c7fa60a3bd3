use Rattle.std.proofs.Common.{rules, ◌≡◌, ◌<◌, ◌∙◌, get_or, length, arith}
use Rattle.std.proofs.lemmas.List.{get_or_default}
use Rattle.core_definitions.specs.Phase.{no_share}
use Rattle.kept_nodes.specs.Kept.{share_at}
use Rattle.kept_nodes.proofs.RowPlaces.{rows_more}
use Rattle.kept_nodes.proofs.rows.add_rows.Goals as goal

pub loop-place-preserved : goal.loop-place-preserved
loop-place-preserved c =
    let i = c.loop-place.place-index in
    let live = c.args.live.now in
    let shares = c.args.shares.now in
    let share = c.index-shares-place.result in
    let below : i < length live = omega arith in
    let own : share ≡ share_at shares (get_or live i 0) =
    c.index-shares-place.is ∙ get_or_default shares (get_or live i 0) share no_share (c.requires.live i 0 below) in
    record {
      found = search rules;
      wanted = search rules;
      parents = search rules;
      row = search rules;
      room = c.row_of.ensures.room ∙ c.loop-place.invariant.room;
      made =
          rows_more shares c.args.side c.args.line.now.prefixes.now live i share c.args.nodes.now.items c.loop-place.nodes.items _ c.row_of.new.into below own
          c.loop-place.invariant.made c.row_of.ensures.nodes c.in_ok-extend_from_slice.ensures.items;
    }
