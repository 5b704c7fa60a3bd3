-- What the reading of files into a collection gives.
use Rattle.std.specs.Prelude.{◌≡◌, ◌⊎◌, ℕ, Bool, true, false, List, Option, Result, Ok, Err, IfSome}
use Rattle.std.specs.FinMap.{get}
use Rattle.std.specs.List.Sorted.{IsPermutation}
use Rattle.definitions.specs.declared.Side.{Side}
use Rattle.definitions.specs.declared.Side.TheVariants.{Zero, One}
use Rattle.definitions.specs.Evaluation.{Share}
use Rattle.shelf_io.specs.Files.{Files}
use Rattle.share_format.specs.Readings.{Reading}
use Rattle.share_format.specs.declared.file_error.FileError.{FileError}
use Rattle.share_lists.specs.Bounds.{IsWithinAFile, HaveLevels}
use Rattle.share_lists.specs.FileLists.{ShareLists, file_lists}
use Rattle.share_lists.specs.Steps.{AreSoFar, AreAll}
use Rattle.file_run.specs.declared.errors.RunError.{RunError}
use Rattle.file_run.specs.declared.errors.RunError.TheVariants.{File}
use Rattle.file_run.specs.declared.both_files.BothFiles.{BothFiles}
use Rattle.file_run.specs.Beginnings.{Both}
use Rattle.file_run.specs.Answers.{IsFault}

-- ---- one side

-- what was collected, up to order, and these numbers of malformed records are of the lists that a reader's records so far come to;
-- of all records where there are no more
pub record Gathered (told : Option Files) (reader : Reading) (more : Bool) (numbers : List ℕ) (collected : List Share) : Type 0 where
  pub lists : ShareLists
  pub so_far : AreSoFar told reader lists
  pub all : more ≡ false → AreAll told reader lists
  pub refused : lists.malformed ≡ numbers
  pub same : IsPermutation lists.shares collected

-- a side's file was read: it comes to lists of this width and with these numbers of malformed records, whose shares were collected,
-- up to order
pub record IsRead (told : Option Files) (side : Side) (name : List ℕ) (width : ℕ) (numbers : List ℕ) (collected : List Share) : Type 0 where
  pub lists : ShareLists
  pub wide : lists.width ≡ width
  pub refused : lists.malformed ≡ numbers
  pub same : IsPermutation lists.shares collected
  pub within : IsWithinAFile lists
  pub levels : HaveLevels lists
  pub exact : IfSome told (λ held. file_lists side (get held name) ≡ Ok lists)

-- the error is that of the side's file
abbrev pub SideFails : Side → Result ShareLists FileError → RunError → Type 0
SideFails side (Ok lists) e = ⊥
SideFails side (Err error) e = e ≡ File side error

-- an error of a side's reading is its file's, or one of the outside
abbrev pub SideStops : Side → RunError → Result ShareLists FileError → Type 0
SideStops side e found = IsFault e ⊎ SideFails side found e

-- ---- both sides

-- both files were read, and have one width
pub record AreRead (told : Option Files) (zero one : List ℕ) (read : BothFiles) : Type 0 where
  pub zeros : IsRead told Zero zero read.width read.malformed0 read.collect.zero
  pub ones : IsRead told One one read.width read.malformed1 read.collect.one

-- an error of the reading of both is that of the files, or one of the outside
abbrev pub BothStop : RunError → Result Both RunError → Type 0
BothStop e found = IsFault e ⊎ (found ≡ Err e)
