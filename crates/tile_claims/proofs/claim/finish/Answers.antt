use Rattle.tile_claims.proofs.Keeping.{closes}
use Rattle.tile_claims.proofs.claim.finish.Goals as goal

pub returns : goal.returns
returns c = closes c.args.table.shared.key c.args.keeper.id c.args.keeper.me.0 _ _ c.requires.all.1 c.close_with-closed.ensures.values.2 c.word-word.result c.word-word.ensures
