-- How a share file is spelled: its header, and the record of each share.
use Rattle.std.specs.Prelude.{ℕ, ◌+◌, ◌*◌, ◌++◌, Bool, true, false, List, [], ◌∷◌}
use Rattle.std.specs.List.{flat_map}
use Rattle.std.specs.Int.{w64, to_le_bytes}
use Rattle.definitions.specs.declared.Side.{Side}
use Rattle.definitions.specs.Sides.{side_number}
use Rattle.definitions.specs.Evaluation.{LevelWord, Share}

-- the 8 bytes before the records: the letters PPLR, the version, the side, the width in bytes, and 0
abbrev pub header : Side → ℕ → List ℕ
header side width = 0x50 ∷ 0x50 ∷ 0x4c ∷ 0x52 ∷ 1 ∷ side_number side ∷ width ∷ 0 ∷ []

-- the bytes of a record: an id and two seeds, and 65 for each of the 8 levels of a byte
abbrev pub record_len : ℕ → ℕ
record_len width = 80 + 520 * width

-- a bit as a number
abbrev pub bit_number : Bool → ℕ
bit_number false = 0
bit_number true = 1

-- the byte of both bit words: the left one is bit 0, the right one bit 1
abbrev pub bits_of : LevelWord → ℕ
bits_of word = bit_number word.left + 2 * bit_number word.right

-- the four numbers of a level, 8 bytes each, the lowest byte first
abbrev pub numbers_of : LevelWord → List ℕ
numbers_of word = to_le_bytes w64 word.u ++ (to_le_bytes w64 word.v ++ (to_le_bytes w64 word.a ++ to_le_bytes w64 word.b))

-- the 65 bytes of a level: the seed word, the bit words, and the numbers
unfoldable pub block : LevelWord → List ℕ
block word = word.seed ++ (bits_of word ∷ numbers_of word)

-- the record of a share: its id, its two seeds, and the block of each level in order
abbrev pub spelling : Share → List ℕ
spelling share = share.id ++ (share.root ++ (share.corr ++ flat_map block share.levels))
