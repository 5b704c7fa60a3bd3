-- Records and shares: each gives the other back.
use Rattle.std.specs.Prelude.{◌≡◌, ℕ, ◌*◌, ◌^◌, ◌<◌, ◌≤◌, ◌++◌, List, None, IsTrue, length, take, map}
use Rattle.std.specs.List.{All, flat_map}
use Rattle.definitions.specs.declared.Side.{Side}
use Rattle.definitions.specs.Field.{modulus}
use Rattle.definitions.specs.Evaluation.{LevelWord, Share}
use Rattle.share_format.specs.Spelling.{header, record_len, spelling}
use Rattle.share_format.specs.ShareFile.{record_case, well_formed, is_width, header_fault, file_case, whole, records, record_offset, most_bytes}

-- the bytes of a record of this width
pub record IsRecord (width : ℕ) (bytes : List ℕ) : Type 0 where
  pub long : length bytes ≡ record_len width
  pub bytes_fit : All (λ byte. byte < 2 ^ 8) bytes

-- a word of a level with a seed of 32 bytes and elements of the field
pub record IsWord (word : LevelWord) : Type 0 where
  pub seed : length word.seed ≡ 32
  pub u : word.u < modulus
  pub v : word.v < modulus
  pub a : word.a < modulus
  pub b : word.b < modulus

-- a share of this width: an id of 16 bytes, seeds of 32, and 8 words of levels for each byte of width
pub record IsShare (width : ℕ) (share : Share) : Type 0 where
  pub id : length share.id ≡ 16
  pub root : length share.root ≡ 32
  pub corr : length share.corr ≡ 32
  pub levels : length share.levels ≡ 8 * width
  pub words : All IsWord share.levels

-- a well-formed record is the spelling of its share, which is a share of the record's width
abbrev pub SpellingLaw : Type 0
SpellingLaw = (width : ℕ) (bytes : List ℕ) (share : Share) → IsRecord width bytes → record_case width bytes ≡ well_formed share
    → (spelling share ≡ bytes) × IsShare width share

-- the spelling of a share has a record's length and is well-formed as that share
abbrev pub ReadingLaw : Type 0
ReadingLaw = (width : ℕ) (share : Share) → IsShare width share
    → (length (spelling share) ≡ record_len width) × (record_case width (spelling share) ≡ well_formed share)

-- bytes that begin with the header of a side and a width that a file may have are without a fault in the header
abbrev pub HeaderLaw : Type 0
HeaderLaw = (side : Side) (width : ℕ) (bytes : List ℕ) → IsTrue (is_width width) → take 8 bytes ≡ header side width → header_fault side bytes ≡ None

-- the bytes of a file of shares
abbrev pub file_of : Side → ℕ → List Share → List ℕ
file_of side width shares = header side width ++ flat_map spelling shares

-- a file of shares that has no more bytes than a file may have is whole, and its records are these shares, in order
abbrev pub FileLaw : Type 0
FileLaw = (side : Side) (width : ℕ) (shares : List Share) → IsTrue (is_width width) → All (IsShare width) shares
    → record_offset width (length shares) ≤ most_bytes
    → (file_case side (file_of side width shares) ≡ whole width) × (records width (file_of side width shares) ≡ map well_formed shares)
