use Rattle.std.proofs.Common.{◌≡◌, ◌+◌, ◌++◌, [], length, map, vec_len}
use Rattle.std.specs.List.{AllByRecursion}
use Rattle.tile_claims.specs.Drawers.{list_of}
use Rattle.tile_claims.specs.Views.{view_of}
use Rattle.tile_claims.proofs.claim.Claims.close.Given as goal

abbrev pub invariant-loop-drawer : goal.invariant-loop-drawer
invariant-loop-drawer l =
    ((l.keeper.table_id ≡ l.table.shared.table_id) × (l.table.shared.table_id.words ≡ 1) × (l.table.shared.table_id.slots ≡ 0))
    × (l.keeper.me ≡ (view_of l.keeper.me.0.made l.keeper.me.0.lists, []))
    × (length l.keeper.me.0.lists + vec_len l.drawers ≡ l.table.shared.key)
    × AllByRecursion (λ d. d.claims ≡ l.table.shared.table_id) l.drawers.items
    × (map list_of l.drawers.items ++ l.keeper.me.0.lists ≡ map list_of l.fn.drawers.items)
    × (l.table.shared.key ≡ vec_len l.fn.drawers)

abbrev pub decreases-loop-drawer : goal.decreases-loop-drawer
decreases-loop-drawer l = goal.left-loop-drawer l
