-- A shelf that gives less than it states.
use Rattle.std.specs.Prelude.{ℕ, ◌+◌, List, min}
use Rattle.shelf_io.specs.Faults.{last_count}

-- the length that it states of every name, the bytes that it gives, and how often it has failed
pub record Hollow : Type 0 where
  pub stated : ℕ
  pub head : List ℕ
  pub faults : ℕ

-- it has failed once more; a count at its end stays
abbrev pub one_more : Hollow → Hollow
one_more hollow = record { stated = hollow.stated; head = hollow.head; faults = min (hollow.faults + 1) last_count }
