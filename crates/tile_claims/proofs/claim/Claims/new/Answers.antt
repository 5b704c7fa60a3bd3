use Rattle.std.proofs.Common.{rules, ◌≡◌, ◌<◌, arith, ap, ◌∙◌}
use Rattle.tile_claims.specs.Drawers.{fresh_drawer, fresh_drawers}
use Rattle.tile_claims.proofs.Dealing.{dealt, all_dealt}
use Rattle.tile_claims.proofs.claim.Claims.new.Goals as goal

pub loop-number-preserved : goal.loop-number-preserved
loop-number-preserved c =
    let inv = c.loop-number.invariant in
    let id = c.in_ok-table.table.shared.table_id in
    let some_made : 0 < c.loop-number.number = omega (arith, inv.2) in (
      c.deal.ensures.left,
      c.deal.ensures.same ∙ inv.1,
      search rules,
      search rules,
      dealt id c.loop-number.number _ _ c.deal.result some_made inv.4 c.deal.ensures.dealt c.push_reserved.ensures.items,
      inv.5,
      inv.6,
      inv.7,
    )

pub returns-clause-drawers : goal.returns-clause-drawers
returns-clause-drawers c =
    let inv = c.loop-number.invariant in
    let id = c.in_ok-table.table.shared.table_id in
    let some_made : 0 < c.loop-number.number = omega (arith, inv.2) in
    let first : c.at.result ≡ fresh_drawer id 0 = c.at.ensures ∙ ap (λ table. fresh_drawer table 0) inv.1 in
    let number : c.loop-number.number ≡ c.args.drawers = search rules in
    all_dealt id c.loop-number.number _ _ c.at.result some_made inv.4 first c.in-Ok.ensures.items ∙ ap (fresh_drawers id) number
