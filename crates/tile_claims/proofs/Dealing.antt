-- The list of drawers while they are made, one after another.
use Rattle.std.proofs.Common.{◌≡◌, ℕ, suc, ◌+◌, ◌-◌, ◌<◌, List, [], ◌∷◌, ◌++◌, map, arith, ap, sym, ◌∙◌}
use Rattle.std.specs.List.{range_with_len}
use Rattle.std.proofs.lemmas.List.FromFn.{map-range_with_len_more}
use Rattle.atomic_table.specs.Seated.{TableId}
use Rattle.tile_claims.specs.Drawers.{DrawerSeen, fresh_drawer, fresh_drawers}

module _ (id : TableId) (number : ℕ) (made after : List DrawerSeen) (drawer : DrawerSeen) where
  -- one more at the end
  pub dealt : 0 < number → made ≡ map (fresh_drawer id) (range_with_len 1 (number - 1)) → drawer ≡ fresh_drawer id number → after ≡ made ++ drawer ∷ []
      → after ≡ map (fresh_drawer id) (range_with_len 1 (number + 1 - 1))
  dealt some_made is one items =
      items
      ∙ (λ i. is i ++ one i ∷ [])
      ∙ sym (map-range_with_len_more (fresh_drawer id) 1 (number - 1) number (omega (arith, some_made)))
      ∙ ap (λ n. map (fresh_drawer id) (range_with_len 1 n)) (omega (arith, some_made))

  -- with the first in front they are all
  pub all_dealt : 0 < number → made ≡ map (fresh_drawer id) (range_with_len 1 (number - 1)) → drawer ≡ fresh_drawer id 0 → after ≡ drawer ∷ made
      → after ≡ fresh_drawers id number
  all_dealt some_made is first items = items ∙ (λ i. first i ∷ is i) ∙ ap (fresh_drawers id) count
    where
      count : suc (number - 1) ≡ number
      count = omega (arith, some_made)
