-- What a reader of a share file is.
use Rattle.std.specs.Prelude.{◌≡◌, ℕ, ◌+◌, ◌<◌, ◌≤◌, Bool, true, false, List, Option, IsTrue}
use Rattle.definitions.specs.declared.Side.{Side}
use Rattle.shelf_io.specs.Files.{Files, IsThere, IfThere}
use Rattle.share_format.specs.Pieces.{Held, none_at, IsHeld}
use Rattle.share_format.specs.ShareFile.{whole, file_case, record_count, record_offset, most_bytes}

-- the name of its file, the side that was asked for, the width, how many records there are, the number of the next one, whether
-- the file was found to end before it, and the bytes that were read ahead
pub record Reading : Type 0 where
  pub name : List ℕ
  pub side : Side
  pub width : ℕ
  pub count : ℕ
  pub next : ℕ
  pub cut : Bool
  pub held : Held

-- what is true of every reader, whatever the shelf: its width is one that a file may have, its records are within the bytes
-- that a file may have, it gave no more than there are, and it was cut only before one of them
pub record IsSound (reader : Reading) : Type 0 where
  pub least : 1 ≤ reader.width
  pub most : reader.width ≤ 32
  pub room : record_offset reader.width reader.count ≤ most_bytes
  pub within : reader.next ≤ reader.count
  pub before : IsTrue reader.cut → reader.next < reader.count

-- a reader before its first record, which holds no bytes
abbrev pub start : List ℕ → Side → ℕ → ℕ → Reading
start name side width count = record { name = name; side = side; width = width; count = count; next = 0; cut = false; held = none_at 0 }

-- a reader behind one more record
abbrev pub advanced : Reading → Reading
advanced reader = record reader { next = reader.next + 1 }

-- a reader whose file ended before the next record
abbrev pub stopped : Reading → Reading
stopped reader = record reader { cut = true }

-- a reader that holds these bytes, and stands where it stood
abbrev pub holding : Held → Reading → Reading
holding held reader = record reader { held = held }

-- the offset of the next record
abbrev pub next_offset : Reading → ℕ
next_offset reader = record_offset reader.width reader.next

-- the bytes of a file are those that a reader was opened on, and that it holds
pub record IsOf (bytes : List ℕ) (reader : Reading) : Type 0 where
  pub whole_file : file_case reader.side bytes ≡ whole reader.width
  pub counted : record_count reader.width bytes ≡ reader.count
  pub not_cut : reader.cut ≡ false
  pub held : IsHeld bytes reader.held

-- a reader fits a shelf that does not tell, and one that tells the file that the reader was opened on
abbrev pub Fits : Option Files → Reading → Type 0
Fits told reader = IsThere told reader.name × IfThere told reader.name (λ bytes. IsOf bytes reader)
