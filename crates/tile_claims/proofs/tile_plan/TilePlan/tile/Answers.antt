use Rattle.std.proofs.Common.{◌<◌, arith, ap, sym, subst}
use Rattle.tile_claims.specs.Plans.{Plan, tiles_of}
use Rattle.tile_claims.proofs.Cutting.{row_begins, block_begins}
use Rattle.tile_claims.proofs.tile_plan.TilePlan.tile.Goals as goal

pub part-r0-requires-clause-begins : goal.part-r0-requires-clause-begins
part-r0-requires-clause-begins c =
    let below = subst (λ (p : Plan). c.args.k < tiles_of p) (sym c.self.view_is) c.requires in
    rw (c.blocks-blocks.ensures, ← c.self.view_is) (row_begins _ c.self.invariant.0 c.self.invariant.1 c.args.k below)

pub part-c0-requires-clause-begins : goal.part-c0-requires-clause-begins
part-c0-requires-clause-begins c =
    let below = subst (λ (p : Plan). c.args.k < tiles_of p) (sym c.self.view_is) c.requires in
    rw (c.blocks-blocks.ensures, ← c.self.view_is) (block_begins _ c.self.invariant.0 c.self.invariant.1 c.args.k below)

pub returns-clause-part : goal.returns-clause-part
returns-clause-part c =
    let rows = c.part-r0.ensures.within in
    let blocks = c.part-c0.ensures.within in
    let reports = ap (λ (p : Plan). p.reports) c.self.view_is in
    let candidates = ap (λ (p : Plan). p.candidates) c.self.view_is in
    (rows.0, omega (arith, rows.1, reports), blocks.0, omega (arith, blocks.1, candidates))
