-- What contracts see of an intake and of its passes.
use Rattle.std.specs.Prelude.{ℕ, ⊤}
use Rattle.definitions.specs.declared.Side.{Side}
use Rattle.core_definitions.specs.System.{Entry}
use Rattle.turn_lock.specs.Seen.{LockId, PassSeen}

-- which intake it is: the lock, with no plan
abbrev pub IntakeId : Type 0
IntakeId = LockId ⊤

-- whose reports it takes in, which intake it is, and how many passes it has
pub record IntakeSeen : Type 0 where
  pub side : Side
  pub lock : IntakeId
  pub passes : ℕ

-- a pass: its intake, its number, the log that it has seen last, and its own entries in order
abbrev pub UploadPassSeen : Type 0
UploadPassSeen = PassSeen ⊤ Entry
