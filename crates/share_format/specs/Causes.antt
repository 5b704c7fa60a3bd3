-- Why a file is refused, and where the shelf may be named.
use Rattle.std.specs.Prelude.{◌≡◌, ℕ, ◌≤◌, Result, Ok, Err, IfErr}
use Rattle.shelf_io.specs.declared.refused.Refused.{Refused}
use Rattle.shelf_io.specs.declared.refused.Refused.TheVariants as refused
use Rattle.shelf_io.specs.Faults.{Rose}
use Rattle.share_format.specs.declared.file_error.FileError.{FileError}
use Rattle.share_format.specs.declared.file_error.FileError.TheVariants.{Missing, TooLong, Header, Cut, Shelf, Memory}

-- the error of a refusal of the shelf
abbrev pub error_of : Refused → FileError
error_of refused.Failed = Shelf
error_of refused.Memory = Memory

-- the count of faults did not fall, and the shelf is named only where the count rose
pub record HasFileCause {X : Type 0} (before now : ℕ) (result : Result X FileError) : Type 0 where
  pub later : before ≤ now
  pub rose : IfErr result (λ e. e ≡ Shelf → Rose before now)

-- an answer is the defined one, unless the shelf failed or memory is wanting
abbrev pub Gives : {X : Type 0} → Result X FileError → Result X FileError → Type 0
Gives (Ok x) defined = defined ≡ Ok x
Gives (Err Missing) defined = defined ≡ Err Missing
Gives (Err (TooLong length)) defined = defined ≡ Err (TooLong length)
Gives (Err (Header at)) defined = defined ≡ Err (Header at)
Gives (Err (Cut at)) defined = defined ≡ Err (Cut at)
Gives (Err Shelf) defined = Unit {0}
Gives (Err Memory) defined = Unit {0}
