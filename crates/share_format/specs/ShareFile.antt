-- How the bytes of a share file are read: the case that the file is, and the case that each record is.
use Rattle.std.specs.Prelude.{ℕ, zero, suc, ◌+◌, ◌-◌, ◌*◌, ◌/◌, ◌%◌, ◌^◌, ◌==◌, ◌&&◌, ◌++◌, Bool, if◌then◌else◌, List, [], ◌∷◌, Option, Some, None, length, nat_lt, nat_le, nat_eq, slice_index, slice_range}
use Rattle.std.specs.Option.{option_map, option_or}
use Rattle.std.specs.Int.{w64, from_le_bytes}
use Rattle.definitions.specs.declared.Side.{Side}
use Rattle.definitions.specs.Field.{modulus}
use Rattle.definitions.specs.Evaluation.{LevelWord, Share}
use Rattle.share_format.specs.Spelling.{header, record_len}

-- the first of the numbers below a count that does not pass a test
unfoldable pub first_failing : (ℕ → Bool) → ℕ → Option ℕ
first_failing passes zero = None
first_failing passes (suc count) = option_or (first_failing passes count) (if passes count then None else Some count)

-- a number of 8 bytes, the lowest first
abbrev pub number_at : List ℕ → ℕ → ℕ
number_at bytes at = from_le_bytes w64 (slice_range bytes at (at + 8))

-- what the 65 bytes of a level say
unfoldable pub word_of : List ℕ → LevelWord
word_of bytes = record {
  seed = slice_range bytes 0 32;
  left = slice_index bytes 32 % 2 == 1;
  right = slice_index bytes 32 / 2 % 2 == 1;
  u = number_at bytes 33;
  v = number_at bytes 41;
  a = number_at bytes 49;
  b = number_at bytes 57;
}

-- whether the byte of the bits of a level has no other bit set
unfoldable pub has_bits : List ℕ → Bool
has_bits bytes = nat_le (slice_index bytes 32) 3

-- whether the four numbers of a level are below the modulus
unfoldable pub has_elements : List ℕ → Bool
has_elements bytes =
    nat_lt (number_at bytes 33) modulus && nat_lt (number_at bytes 41) modulus
    && nat_lt (number_at bytes 49) modulus && nat_lt (number_at bytes 57) modulus

-- the bytes of a level of a record, the first level being 0
abbrev pub block_at : List ℕ → ℕ → List ℕ
block_at bytes place = slice_range bytes (80 + 65 * place) (80 + 65 * place + 65)

-- whether a level of a record breaks no rule
abbrev pub is_level : List ℕ → ℕ → Bool
is_level bytes place = has_bits (block_at bytes place) && has_elements (block_at bytes place)

-- what is wrong with a record, with the first level at fault, counted from 1: a further bit is set, or a number is too large
pub data Fault : Type 0 where
  bits : ℕ → Fault
  element : ℕ → Fault

-- the bits of a level come before its numbers
abbrev pub fault_of : List ℕ → ℕ → Fault
fault_of bytes place = if has_bits (block_at bytes place) then element (place + 1) else bits (place + 1)

abbrev pub first_fault : ℕ → List ℕ → Option Fault
first_fault width bytes = option_map (fault_of bytes) (first_failing (is_level bytes) (8 * width))

-- the words of the first levels of a record
unfoldable pub words_in : List ℕ → ℕ → List LevelWord
words_in bytes zero = []
words_in bytes (suc count) = words_in bytes count ++ word_of (block_at bytes count) ∷ []

-- what a record says
abbrev pub share_of : ℕ → List ℕ → Share
share_of width bytes = record {
  id = slice_range bytes 0 16;
  root = slice_range bytes 16 48;
  corr = slice_range bytes 48 80;
  levels = words_in bytes (8 * width);
}

-- what a record is: the spelling of a share, or none
pub data RecordCase : Type 0 where
  well_formed : Share → RecordCase
  malformed : RecordCase

abbrev pub case_of : Option Fault → Share → RecordCase
case_of None share = well_formed share
case_of (Some fault) share = malformed

unfoldable pub record_case : ℕ → List ℕ → RecordCase
record_case width bytes = case_of (first_fault width bytes) (share_of width bytes)

-- how many whole records the bytes of a file have room for
abbrev pub record_count : ℕ → List ℕ → ℕ
record_count width bytes = (length bytes - 8) / record_len width

-- where a record begins, and its bytes
abbrev pub record_offset : ℕ → ℕ → ℕ
record_offset width number = 8 + record_len width * number

abbrev pub record_at : ℕ → List ℕ → ℕ → List ℕ
record_at width bytes number = slice_range bytes (record_offset width number) (record_offset width number + record_len width)

-- the first records of a file
unfoldable pub first_records : ℕ → List ℕ → ℕ → List RecordCase
first_records width bytes zero = []
first_records width bytes (suc count) = first_records width bytes count ++ record_case width (record_at width bytes count) ∷ []

-- the records of a whole file, in order
abbrev pub records : ℕ → List ℕ → List RecordCase
records width bytes = first_records width bytes (record_count width bytes)

-- the shares of the well-formed records, in order
abbrev pub shares_of : List RecordCase → List Share
shares_of [] = []
shares_of (well_formed share ∷ cases) = share ∷ shares_of cases
shares_of (malformed ∷ cases) = shares_of cases

-- the numbers of the others, ascending, where the first record has the number `first`
abbrev pub malformed_from : ℕ → List RecordCase → List ℕ
malformed_from first [] = []
malformed_from first (well_formed share ∷ cases) = malformed_from (suc first) cases
malformed_from first (malformed ∷ cases) = first ∷ malformed_from (suc first) cases

-- the widths that a file may have
abbrev pub is_width : ℕ → Bool
is_width width = nat_le 1 width && nat_le width 32

-- whether the byte at an offset of a header may stand there
abbrev pub may_stand : Side → ℕ → ℕ → Bool
may_stand side at byte = if nat_eq at 6 then is_width byte else nat_eq byte (slice_index (header side 1) at)

-- whether the bytes have one at an offset of the header, and it may stand there
abbrev pub is_header_byte : Side → List ℕ → ℕ → Bool
is_header_byte side bytes at = nat_lt at (length bytes) && may_stand side at (slice_index bytes at)

-- the first offset of the header whose byte is missing or wrong
abbrev pub header_fault : Side → List ℕ → Option ℕ
header_fault side bytes = first_failing (is_header_byte side bytes) 8

-- what the bytes of a file are: more than a file may have, with their number; with a header that is wrong at an offset; with
-- a last record, at an offset, that is not whole; or whole, with the width
pub data FileCase : Type 0 where
  too_long : ℕ → FileCase
  header_wrong : ℕ → FileCase
  cut : ℕ → FileCase
  whole : ℕ → FileCase

-- the case of so many bytes of a width, header and all
abbrev pub length_case : ℕ → ℕ → FileCase
length_case width bytes =
    if nat_eq ((bytes - 8) % record_len width) 0 then whole width else cut (record_offset width ((bytes - 8) / record_len width))

abbrev pub header_case : Option ℕ → List ℕ → FileCase
header_case (Some at) bytes = header_wrong at
header_case None bytes = length_case (slice_index bytes 6) (length bytes)

-- the most bytes of a file
abbrev pub most_bytes : ℕ
most_bytes = 2 ^ 28

unfoldable pub file_case : Side → List ℕ → FileCase
file_case side bytes = if nat_lt most_bytes (length bytes) then too_long (length bytes) else header_case (header_fault side bytes) bytes
