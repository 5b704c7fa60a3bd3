use Rattle.std.proofs.Common.{rules, drop, ap, ◌∙◌}
use Rattle.share_format.specs.Pieces.{Held}
use Rattle.share_format.proofs.HeldLaws.{range_rest}
use Rattle.share_format.proofs.piece.Piece.give.Goals as goal

pub returns-clause-left : goal.returns-clause-left
returns-clause-left c =
    range_rest c.self.inside.buffer.items c.self.inside.used c.min-n.result c.self.inside.filled (search rules)
    ∙ ap (λ (h : Held). drop c.min-n.result h.bytes) c.self.view_is
