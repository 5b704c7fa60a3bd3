use Rattle.std.proofs.Common.{◌≡◌, ◌+◌, ◌-◌, ◌≤◌, [], ◌∷◌, map, vec_len, vec_capacity}
use Rattle.std.specs.List.{range_with_len}
use Rattle.tile_claims.specs.Drawers.{fresh_drawer}
use Rattle.tile_claims.specs.Views.{view_of, drawer_list}
use Rattle.tile_claims.proofs.claim.Claims.new.Given as goal

abbrev pub invariant-loop-number : goal.invariant-loop-number
invariant-loop-number l =
    (l.keeper.me ≡ (view_of l.number (drawer_list 0 [] ∷ []), []))
    × (l.keeper.table_id ≡ l.table.shared.table_id)
    × (vec_len l.made + 1 ≡ l.number)
    × (l.fn.drawers ≤ vec_capacity l.made)
    × (l.made.items ≡ map (fresh_drawer l.table.shared.table_id) (range_with_len 1 (l.number - 1)))
    × (l.table.shared.table_id.words ≡ 1)
    × (l.table.shared.table_id.slots ≡ 0)
    × (l.table.shared.key ≡ l.fn.drawers)
