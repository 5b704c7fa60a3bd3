-- What a share file comes to: the list of its shares and the numbers of its malformed records, or why it is refused.
use Rattle.std.specs.Prelude.{ℕ, List, Option, None, Some, Result, Ok, Err}
use Rattle.definitions.specs.declared.Side.{Side}
use Rattle.definitions.specs.Evaluation.{Share}
use Rattle.share_format.specs.declared.file_error.FileError.{FileError}
use Rattle.share_format.specs.declared.file_error.FileError.TheVariants.{Missing, TooLong, Header, Cut}
use Rattle.share_format.specs.ShareFile.{FileCase, too_long, header_wrong, cut, whole, file_case, RecordCase, records, shares_of, malformed_from}

-- the width of a file in bytes, the shares of its well-formed records in order, and the numbers of the others, ascending
pub record ShareLists : Type 0 where
  pub width : ℕ
  pub shares : List Share
  pub malformed : List ℕ

-- what the records of a file come to
abbrev pub lists_of : ℕ → List RecordCase → ShareLists
lists_of width cases = record { width = width; shares = shares_of cases; malformed = malformed_from 0 cases }

-- what the bytes of a file come to in the case that they are
abbrev pub case_lists : List ℕ → FileCase → Result ShareLists FileError
case_lists bytes (too_long length) = Err (TooLong length)
case_lists bytes (header_wrong at) = Err (Header at)
case_lists bytes (cut at) = Err (Cut at)
case_lists bytes (whole width) = Ok (lists_of width (records width bytes))

-- what the file that a side is asked for comes to, where it is there
abbrev pub file_lists : Side → Option (List ℕ) → Result ShareLists FileError
file_lists side None = Err Missing
file_lists side (Some bytes) = case_lists bytes (file_case side bytes)
