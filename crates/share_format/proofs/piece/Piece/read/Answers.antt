use Rattle.std.proofs.Common.{arith}
use Rattle.share_format.proofs.HeldLaws.{there_used}
use Rattle.share_format.proofs.piece.Piece.read.Goals as goal

pub returns-clause-held : goal.returns-clause-held
returns-clause-held g c =
    let give = c.give.ensures in
    there_used (g.H.Shelf.files c.args.shelf.now) c.args.name.now c.read_ahead.new.self c.give.new.self c.give.result
    (omega (arith, give.count)) give.place give.left c.in_ok-read_ahead.ensures.held
