use Rattle.std.proofs.Common.{◌≡◌, ℕ, ◌<◌, false, List, ap, sym, subst}
use Rattle.tile_claims.specs.Drawers.{DrawerSeen}
use Rattle.phase_state.specs.Logs.{posts}
use Rattle.level_totals.specs.Levels.{seen_of, own_of}
use Rattle.phase_workers.specs.Crews.{Did}
use Rattle.phase_workers.proofs.Steps.{did_more}
use Rattle.phase_workers.proofs.working.once.Goals as goal

pub returns-clause-did : goal.returns-clause-did
returns-clause-did g c =
    let tells = g.G.Asked.tells c.args.shared.now.gate.now in
    let rule = g.G.Asked.rule c.args.shared.now.gate.now in
    let tiles = c.args.shared.now.claims.now.tiles in
    let claim = c.in-Some.ensures in
    let after = c.serve-pass.result.0 in
    let drawn = ap (λ (d : DrawerSeen). d.drawn) claim.2 in
    subst (λ (ds : List ℕ). Did tells rule tiles ds (seen_of after) (own_of after)) (sym drawn)
    (did_more tells rule tiles claim.0 c.args.drawer.now.drawn (seen_of c.args.pass) (own_of c.args.pass) (seen_of after) (own_of after) c.requires.did c.serve-pass.ensures.seen
    (λ t less no. subst (λ k. 0 < posts k (seen_of after)) claim.3.0 (c.serve-pass.ensures.went t (subst (λ k. rule k ≡ false) (sym claim.3.0) no)))
    c.serve-pass.ensures.kept)
