-- How the making of both share files ends: they are written, or there is a reason why not.
use Rattle.std.specs.Prelude.{◌≡◌, ℕ, Bool, List, Option, Ok, Err, IfSome}
use Rattle.std.specs.Option.{option_map}
use Rattle.std.specs.FinMap.{get}
use Rattle.shelf_io.specs.Files.{Files}
use Rattle.pair_files.specs.Made.{zero_text, one_text}
use Rattle.pair_files.specs.PairFiles.{with_both, HoldFronts}
use Rattle.pair_files.specs.declared.pair_settings.PairSettings.{PairSettings}
use Rattle.file_gen.specs.declared.errors.GenError.{GenError}
use Rattle.file_gen.specs.Answers.{Answer, strings_answer, Fits}

-- the names of the strings file and of both share files
pub record Names : Type 0 where
  pub strings : List ℕ
  pub zero : List ℕ
  pub one : List ℕ

-- both share files of these strings are there, and all other names stay
abbrev pub HoldsPairs : Names → PairSettings → List (List Bool) → Option Files → Option Files → Type 0
HoldsPairs names s them before now =
    now ≡ option_map (with_both names.zero (zero_text s.width s.master s.tag them) names.one (one_text s.width s.master s.tag them)) before

-- the strings are those of the file where the shelf tells, and both share files are there
pub record Makes (names : Names) (settings : PairSettings) (before now : Option Files) : Type 0 where
  pub them : List (List Bool)
  pub are : IfSome before (λ held. strings_answer settings.width (get held names.strings) ≡ Ok them)
  pub holds : HoldsPairs names settings them before now

-- the shelf after an error: as before, or with fronts of the share files of the strings
abbrev pub ShelfAfter : Names → PairSettings → Answer → Option Files → Option Files → Type 0
ShelfAfter names s (Ok them) before now =
    HoldFronts before now names.zero (zero_text s.width s.master s.tag them) names.one (one_text s.width s.master s.tag them)
ShelfAfter names s (Err e) before now = now ≡ before

-- where the shelf tells, an error is that of the strings file, the outside's faults apart, and the shelf is as that says
pub record StopsAt (names : Names) (settings : PairSettings) (before now : Option Files) (e : GenError) : Type 0 where
  pub fits : IfSome before (λ held. Fits (strings_answer settings.width (get held names.strings)) e)
  pub shelf : IfSome before (λ held. ShelfAfter names settings (strings_answer settings.width (get held names.strings)) before now)
