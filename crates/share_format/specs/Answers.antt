-- What a reader of a share file answers.
use Rattle.std.specs.Prelude.{◌≡◌, ℕ, ◌*◌, ◌<◌, List, Option, Some, None, Result, Ok, Err, length, slice_get}
use Rattle.definitions.specs.declared.Side.{Side}
use Rattle.share_format.specs.declared.file_error.FileError.{FileError}
use Rattle.share_format.specs.declared.file_error.FileError.TheVariants as errors
use Rattle.share_format.specs.declared.records.Record.{Record}
use Rattle.share_format.specs.declared.records.Record.TheVariants as given
use Rattle.share_format.specs.ShareFile.{FileCase, too_long, header_wrong, cut, whole, file_case, RecordCase, well_formed, malformed, record_count}
use Rattle.share_format.specs.Readings.{Reading, start, advanced, stopped, holding, next_offset}

-- what a file's case opens
abbrev pub opened : List ℕ → Side → List ℕ → FileCase → Result Reading FileError
opened name side bytes (too_long length) = Err (errors.TooLong length)
opened name side bytes (header_wrong at) = Err (errors.Header at)
opened name side bytes (cut at) = Err (errors.Cut at)
opened name side bytes (whole width) = Ok (start name side width (record_count width bytes))

-- what the file under a name opens, where it is there
abbrev pub opening : List ℕ → Side → Option (List ℕ) → Result Reading FileError
opening name side None = Err errors.Missing
opening name side (Some bytes) = opened name side bytes (file_case side bytes)

-- what the header and the length of a file that is not too long come to: the width and the number of records, or a refusal
abbrev pub Judged : Side → List ℕ → Result (ℕ × ℕ) FileError → Type 0
Judged side bytes (Ok shape) = (file_case side bytes ≡ whole shape.0) × (record_count shape.0 bytes ≡ shape.1)
Judged side bytes (Err (errors.Header at)) = file_case side bytes ≡ header_wrong at
Judged side bytes (Err (errors.Cut at)) = file_case side bytes ≡ cut at
Judged side bytes (Err errors.Missing) = ⊥
Judged side bytes (Err (errors.TooLong length)) = ⊥
Judged side bytes (Err errors.Shelf) = ⊥
Judged side bytes (Err errors.Memory) = ⊥

-- what a record's case gives, by its number
abbrev pub answer : ℕ → Option RecordCase → Record
answer number None = given.End
answer number (Some (well_formed share)) = given.Share share
answer number (Some malformed) = given.Malformed number

-- what is given in the place of a number, End behind the last
abbrev pub record_answer : ℕ → List RecordCase → Record
record_answer number cases = answer number (slice_get cases number)

-- a share has 8 levels for each byte of width, and a malformed record is told by its number
abbrev pub IsGiven : ℕ → ℕ → Record → Type 0
IsGiven width number (given.Share share) = length share.levels ≡ 8 * width
IsGiven width number (given.Malformed told) = told ≡ number
IsGiven width number given.End = Unit {0}

-- where a reader stands after a call: behind the record that it gave; at the end as before; stopped where a read gave too
-- little, with the offset of the record that was being read; as before where the shelf failed or memory is wanting. The bytes
-- that it holds may be others, but at the end
abbrev pub Stands : Reading → Result Record FileError → Reading → Type 0
Stands old (Ok (given.Share share)) new = (old.next < old.count) × (new ≡ holding new.held (advanced old))
Stands old (Ok (given.Malformed number)) new = (old.next < old.count) × (new ≡ holding new.held (advanced old))
Stands old (Ok given.End) new = (old.next ≡ old.count) × (new ≡ old)
Stands old (Err (errors.Cut at)) new = (at ≡ next_offset old) × (new ≡ holding new.held (stopped old))
Stands old (Err errors.Shelf) new = new ≡ holding new.held old
Stands old (Err errors.Memory) new = new ≡ holding new.held old
Stands old (Err errors.Missing) new = ⊥
Stands old (Err (errors.TooLong length)) new = ⊥
Stands old (Err (errors.Header at)) new = ⊥
