use Rattle.std.proofs.Common.{◌≡◌, ◌⊎◌, sym, subst}
use Rattle.tile_claims.specs.Plans.{Plan, tiles_of, tile_of, CoversEachPairOnce}
use Rattle.tile_claims.proofs.Cutting.{covers_each_pair_once, no_tiles}
use Rattle.tile_claims.proofs.tile_plan.TilePlan.tiles.Goals as goal

pub returns-clause-cover : goal.returns-clause-cover
returns-clause-cover c =
    let P : Plan → Type 0 = λ p. CoversEachPairOnce p.reports p.candidates (tiles_of p) (tile_of p) in
    subst P c.self.view_is (covers_each_pair_once _ c.self.invariant.0 c.self.invariant.1)

pub returns-clause-empty : goal.returns-clause-empty
returns-clause-empty c none =
    let IsEmpty : Plan → Type 0 = λ p. (p.reports ≡ 0) ⊎ (p.candidates ≡ 0) in
    rw (c.div_ceil.ensures, c.blocks-2.ensures, ← c.self.view_is) (no_tiles _ c.self.invariant.0 c.self.invariant.1 (subst IsEmpty (sym c.self.view_is) none))
