-- What contracts see of a lock that is being ended.
use Rattle.std.specs.Prelude.{ℕ, List, ◌∷◌, map}
use Rattle.atomic_table.specs.Seated.{TableId}
use Rattle.turn_lock.specs.declared.views.Mine.{Mine}
use Rattle.turn_lock.specs.Seen.{LockId, PassSeen}

-- which lock it is, how many passes it has, and those that were handed in, the last one first
pub record EndingSeen (P E : Type 0) : Type 0 where
  pub lock : LockId P
  pub passes : ℕ
  pub handed : List (PassSeen P E)

module _ {P E : Type 0} where
  -- a pass as its seat keeps it, as it is seen
  abbrev pub pass_of : TableId → Mine P E → PassSeen P E
  pass_of table m = record { lock = record { table = table; plan = m.plan }; number = m.number; seen = m.seen; own = m.own }

  abbrev pub passes_of : TableId → List (Mine P E) → List (PassSeen P E)
  passes_of table mine = map (pass_of table) mine

  abbrev pub handed_more : PassSeen P E → EndingSeen P E → EndingSeen P E
  handed_more pass e = record e { handed = pass ∷ e.handed }
