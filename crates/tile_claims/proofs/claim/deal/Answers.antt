use Rattle.std.proofs.Common.{[], ◌∷◌}
use Rattle.tile_claims.specs.Views.{view_of, drawer_list}
use Rattle.tile_claims.proofs.Keeping.{splits}
use Rattle.tile_claims.proofs.claim.deal.Goals as goal

pub split_seat-seat-requires : goal.split_seat-seat-requires
split_seat-seat-requires c =
    (c.requires.mine.0, c.requires.mine.1, rw c.requires.first (splits c.args.word.now.key c.args.keeper.now.id (view_of c.args.number (drawer_list 0 [] ∷ [])) c.requires.room.0 c.requires.room.1))
