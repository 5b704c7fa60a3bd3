-- What is true of the lists of every file that was read, whatever it holds.
use Rattle.std.specs.Prelude.{◌≡◌, ◌+◌, ◌*◌, ◌≤◌, length}
use Rattle.std.specs.List.{All}
use Rattle.share_format.specs.ShareFile.{record_offset, most_bytes}
use Rattle.share_lists.specs.FileLists.{ShareLists}

-- the width is one that a file may have, and so many records are within the bytes that a file may have
pub record IsWithinAFile (lists : ShareLists) : Type 0 where
  pub least : 1 ≤ lists.width
  pub most : lists.width ≤ 32
  pub room : record_offset lists.width (length lists.shares + length lists.malformed) ≤ most_bytes

-- each share has 8 levels for each byte of the width
abbrev pub HaveLevels : ShareLists → Type 0
HaveLevels lists = All (λ share. length share.levels ≡ 8 * lists.width) lists.shares
