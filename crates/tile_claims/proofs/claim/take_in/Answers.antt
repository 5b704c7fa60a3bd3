use Rattle.std.proofs.Common.{ap, ◌∙◌}
use Rattle.tile_claims.proofs.Keeping.{joins}
use Rattle.tile_claims.proofs.claim.take_in.Goals as goal

pub join_seat-requires : goal.join_seat-requires
join_seat-requires c =
    let seat = c.into_seat-seat.result in
    let was = c.into_seat-seat.ensures in
    (c.requires.keeper, was.table ∙ c.requires.mine.0, ap (λ m. m.1) was.me, c.requires.mine.1, joins c.args.word.now.key c.args.keeper.now.id seat.id c.args.keeper.now.me.0 seat.me.0)
