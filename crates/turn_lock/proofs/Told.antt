-- What the steps tell, put together.
use Rattle.std.proofs.Common.{◌≡◌, ℕ, List, [], ◌∷◌, map, Option, Some, unwrap_or, sym, ap, ◌∙◌}
use Rattle.atomic_table.specs.Table.{Me, rest}
use Rattle.turn_lock.specs.declared.views.View.{View}
use Rattle.turn_lock.specs.declared.views.Mine.{Mine}
use Rattle.turn_lock.specs.Seats.{resting, gave, log_carried}

module _ {S P E : Type 0} where
  -- the passes after a value was given back
  pub left_mine : (log : S → List E) (old full new : Me (Option S) (View P E)) (y : S)
      → full ≡ (old.0, (0, Some y) ∷ rest old.1)
      → new ≡ (resting full.0.made (map (gave full.0.taken (log_carried log full.1)) full.0.mine), [])
      → new.0.mine ≡ map (gave old.0.taken (log y)) old.0.mine
  left_mine log old full new y put left =
      ap (λ (m : Me (Option S) (View P E)). m.0.mine) left
      ∙ ap (λ (m : Me (Option S) (View P E)). map (gave m.0.taken (log_carried log m.1)) m.0.mine) put

-- a seat outside the lock, as its own view says it
pub rested : {X P E : Type 0} (me : Me X (View P E)) (k : ℕ) (ms : List (Mine P E)) → me ≡ (resting k ms, []) → me ≡ (resting me.0.made me.0.mine, [])
rested {X} {P} {E} me k ms e = e ∙ ap (λ (m : Me X (View P E)). (resting m.0.made m.0.mine, [])) (sym e)

pub same_some : {S : Type 0} (a b : S) → Some a ≡ Some b → a ≡ b
same_some a b e = ap (λ o. unwrap_or o a) e
