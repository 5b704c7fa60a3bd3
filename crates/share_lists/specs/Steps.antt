-- How the lists grow while a reader goes through its file.
use Rattle.std.specs.Prelude.{◌≡◌, ℕ, ◌+◌, ◌<◌, ◌≤◌, ◌++◌, Bool, true, false, List, Option, length, take}
use Rattle.definitions.specs.Evaluation.{Share}
use Rattle.shelf_io.specs.Files.{Files, IfThere}
use Rattle.share_format.specs.declared.file_error.FileError.{FileError}
use Rattle.share_format.specs.declared.file_error.FileError.TheVariants.{Missing, TooLong, Header, Cut, Shelf, Memory}
use Rattle.share_format.specs.Readings.{Reading, advanced, holding}
use Rattle.share_format.specs.ShareFile.{records}
use Rattle.share_lists.specs.FileLists.{ShareLists, lists_of}
use Rattle.share_lists.specs.Bounds.{HaveLevels}

-- lists are those of the records that a reader has passed
pub record AreSoFar (told : Option Files) (reader : Reading) (lists : ShareLists) : Type 0 where
  pub width : lists.width ≡ reader.width
  pub counted : length lists.shares + length lists.malformed ≡ reader.next
  pub levels : HaveLevels lists
  pub exact : IfThere told reader.name (λ bytes. lists ≡ lists_of reader.width (take reader.next (records reader.width bytes)))

-- lists are those of all records of a reader's file
abbrev pub AreAll : Option Files → Reading → ShareLists → Type 0
AreAll told reader lists = IfThere told reader.name (λ bytes. lists ≡ lists_of reader.width (records reader.width bytes))

-- lists with further shares behind theirs, and with these numbers of malformed records
abbrev pub with_part : ShareLists → List Share → List ℕ → ShareLists
with_part lists shares malformed = record lists { shares = lists.shares ++ shares; malformed = malformed }

-- lists so far that end with the first shares are, once the reader went on, lists so far that end with the second
abbrev pub GoOn : Option Files → Reading → List Share → List ℕ → Reading → List Share → List ℕ → Type 0
GoOn told old shares malformed new more_shares more_malformed =
    (lists : ShareLists) → AreSoFar told old (with_part lists shares malformed) → AreSoFar told new (with_part lists more_shares more_malformed)

-- the same, where they are then those of all records
abbrev pub EndSo : Option Files → Reading → List Share → List ℕ → Reading → List Share → List ℕ → Type 0
EndSo told old shares malformed new more_shares more_malformed =
    (lists : ShareLists) → AreSoFar told old (with_part lists shares malformed) → AreAll told new (with_part lists more_shares more_malformed)

-- a reader went on behind one more record, or it stands at the end as before
abbrev pub Went : Bool → Reading → Reading → Type 0
Went true old new = (old.next < old.count) × (new ≡ holding new.held (advanced old))
Went false old new = (old.next ≡ old.count) × (new ≡ old)

-- a reader went on in its file, or stands where it stood
pub record IsLater (old new : Reading) : Type 0 where
  pub name : new.name ≡ old.name
  pub side : new.side ≡ old.side
  pub width : new.width ≡ old.width
  pub count : new.count ≡ old.count
  pub later : old.next ≤ new.next

-- an error that says nothing of the file
abbrev pub IsOutside : FileError → Type 0
IsOutside Missing = ⊥
IsOutside (TooLong length) = ⊥
IsOutside (Header at) = ⊥
IsOutside (Cut at) = ⊥
IsOutside Shelf = Unit {0}
IsOutside Memory = Unit {0}
