-- Passes that were handed in, as they are seen.
use Rattle.std.proofs.Common.{List, [], ◌∷◌}
use Rattle.std.specs.List.{AllByRecursion}
use Rattle.atomic_table.specs.Seated.{TableId}
use Rattle.turn_lock.specs.declared.views.Mine.{Mine}
use Rattle.turn_lock.specs.Seen.{PassSeen}
use Rattle.turn_lock.specs.Ends.{pass_of, passes_of}

module _ {P E : Type 0} (table : TableId) where
  pub each_handed : (F : Mine P E → Type 0) (G : PassSeen P E → Type 0) → ((m : Mine P E) → F m → G (pass_of table m))
      → (ms : List (Mine P E)) → AllByRecursion F ms → AllByRecursion G (passes_of table ms)
  each_handed F G go [] h = tt
  each_handed F G go (m ∷ ms) h = (go m h.0, each_handed F G go ms h.1)
