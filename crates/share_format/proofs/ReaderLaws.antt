-- What a told shelf makes of the answers of a reader.
use Rattle.std.proofs.Common.{◌≡◌, ℕ, ◌-◌, ◌<◌, List, length, take, drop, Option, None, Some, Ok, Err, refl, sym, ap, subst, ◌∙◌, inl, inr, arith, ◌+◌, replicate, length-take}
use Rattle.std.specs.Prelude.{min, IfSome, IsSome}
use Rattle.std.specs.Option.{option_map}
use Rattle.std.specs.FinMap.{get}
use Rattle.std.proofs.lemmas.Bool.{cases_lt}
use Rattle.std.proofs.lemmas.List.{take_all}
use Rattle.definitions.specs.declared.Side.{Side}
use Rattle.shelf_io.proofs.ReadSteps.{there-both}
use Rattle.shelf_io.specs.Files.{Files, IfThere, length_under}
use Rattle.share_format.specs.declared.file_error.FileError.{FileError}
use Rattle.share_format.specs.declared.file_error.FileError.TheVariants as errors
use Rattle.share_format.specs.declared.records.Record.{Record}
use Rattle.share_format.specs.declared.records.Record.TheVariants as given
use Rattle.share_format.specs.Spelling.{record_len}
use Rattle.share_format.specs.ShareFile.{most_bytes, file_case, record_at, record_case, records, RecordCase, record_count}
use Rattle.share_format.specs.Readings.{Reading, start, next_offset, IsOf, Fits}
use Rattle.share_format.specs.Causes.{Gives}
use Rattle.share_format.specs.Answers.{opened, opening, Judged, answer, record_answer}
use Rattle.share_format.proofs.FileLaws.{long_file, record_got, record_past}

-- a fact of the file that a told shelf has
on_file : (told : Option Files) (name : List ℕ) (P Q : Option (List ℕ) → Type 0) → ((file : Option (List ℕ)) → P file → Q file)
    → IfSome told (λ held. P (get held name)) → IfSome told (λ held. Q (get held name))
on_file None name P Q step p = tt
on_file (Some held) name P Q step p = step (get held name) p

long_answer : (name : List ℕ) (side : Side) (size : ℕ) (file : Option (List ℕ)) → most_bytes < size → Some size ≡ option_map length file
    → Gives {X = Reading} (Err (errors.TooLong size)) (opening name side file)
long_answer name side size None p h = absurd cc
long_answer name side size (Some bytes) p h =
    let same : length bytes ≡ size = cc in
    ap (opened name side bytes) (long_file side bytes (omega arith)) ∙ ap (λ n. Err (errors.TooLong n)) same

-- a file that is too long is refused so
pub too_long_answer : (told : Option Files) (name : List ℕ) (side : Side) (found : Option ℕ) (size : ℕ) → found ≡ Some size
    → IfSome told (λ held. found ≡ length_under held name) → most_bytes < size
    → IfSome told (λ held. Gives {X = Reading} (Err (errors.TooLong size)) (opening name side (get held name)))
too_long_answer told name side found size is_it h p =
    on_file told name (λ file. found ≡ option_map length file) (λ file. Gives {X = Reading} (Err (errors.TooLong size)) (opening name side file))
    (λ file e. long_answer name side size file p (sym is_it ∙ e)) h

-- the first 8 bytes, or all of fewer
front_of : (bytes : List ℕ) → take (min 8 (length bytes)) bytes ≡ take 8 bytes
front_of bytes =
    elim (cases_lt (length bytes) 8) [
      | inl lt ↦
          let few : min 8 (length bytes) ≡ length bytes = omega arith in
          ap (λ n. take n bytes) few ∙ take_all (length bytes) bytes (omega arith) ∙ sym (take_all 8 bytes (omega arith))
      | inr le ↦ let many : min 8 (length bytes) ≡ 8 = omega arith in ap (λ n. take n bytes) many
    ]

-- what was read of the header is the front of the file
front_read : (bytes into : List ℕ) (size room filled : ℕ) → length bytes ≡ size → room ≡ min size 8 → filled ≡ min room (length bytes - 0)
    → take filled into ≡ take filled (drop 0 bytes) → take 8 bytes ≡ take filled into
front_read bytes into size room filled long room_is filled_is e =
    let n : min 8 (length bytes) ≡ filled = omega arith in
    sym (front_of bytes) ∙ ap (λ m. take m bytes) n ∙ sym e

one_there : (into : List ℕ) (found : Option ℕ) (size room filled : ℕ) (file : Option (List ℕ)) → found ≡ Some size → room ≡ min size 8
    → found ≡ option_map length file → IfSome file (λ bytes. (filled ≡ min room (length bytes - 0)) × (take filled into ≡ take filled (drop 0 bytes)))
    → IsSome file × IfSome file (λ bytes. (length bytes ≡ size) × (take 8 bytes ≡ take filled into))
one_there into found size room filled None is_it room_is h read = absurd cc
one_there into found size room filled (Some bytes) is_it room_is h read =
    let long : length bytes ≡ size = cc in
    (refl, (long, front_read bytes into size room filled long room_is read.0 read.1))

both_there : (told : Option Files) (name into : List ℕ) (found : Option ℕ) (size room filled : ℕ) → found ≡ Some size → room ≡ min size 8
    → IfSome told (λ held. found ≡ length_under held name)
    → IfThere told name (λ bytes. (filled ≡ min room (length bytes - 0)) × (take filled into ≡ take filled (drop 0 bytes)))
    → IfSome told (λ held. IsSome (get held name) × IfSome (get held name) (λ bytes. (length bytes ≡ size) × (take 8 bytes ≡ take filled into)))
both_there None name into found size room filled is_it room_is h read = tt
both_there (Some held) name into found size room filled is_it room_is h read = one_there into found size room filled (get held name) is_it room_is h read

-- the room for the header
pub length-room : (size room : ℕ) → room ≡ min size 8 → length (take room (replicate {A = ℕ} 8 0)) ≡ min size 8
length-room size room e = omega (arith, length-take room (replicate {A = ℕ} 8 0))

-- the file that the length and the front were read of
pub front_there : (told mid : Option Files) (name into : List ℕ) (found : Option ℕ) (size room filled : ℕ) → mid ≡ told → found ≡ Some size
    → IfSome told (λ held. found ≡ length_under held name) → room ≡ min size 8
    → IfThere mid name (λ bytes. (filled ≡ min room (length bytes - 0)) × (take filled into ≡ take filled (drop 0 bytes)))
    → IfSome told (λ held. IsSome (get held name) × IfSome (get held name) (λ bytes. (length bytes ≡ size) × (take 8 bytes ≡ take filled into)))
front_there told mid name into found size room filled same is_it h room_is read =
    let at_told : IfThere told name (λ bytes. (filled ≡ min room (length bytes - 0)) × (take filled into ≡ take filled (drop 0 bytes))) =
    subst (λ m. IfThere m name (λ bytes. (filled ≡ min room (length bytes - 0)) × (take filled into ≡ take filled (drop 0 bytes)))) same read in
    both_there told name into found size room filled is_it room_is h at_told

error_gives : (name : List ℕ) (side : Side) (bytes : List ℕ) (e : FileError) → Judged side bytes (Err e)
    → Gives {X = Reading} (Err e) (opened name side bytes (file_case side bytes))
error_gives name side bytes errors.Missing h = absurd h
error_gives name side bytes (errors.TooLong length) h = absurd h
error_gives name side bytes (errors.Header at) h = ap (opened name side bytes) h
error_gives name side bytes (errors.Cut at) h = ap (opened name side bytes) h
error_gives name side bytes errors.Shelf h = tt
error_gives name side bytes errors.Memory h = tt

error_at : (name : List ℕ) (side : Side) (e : FileError) (head : List ℕ) (size : ℕ) (file : Option (List ℕ))
    → ((bytes : List ℕ) → length bytes ≡ size → take 8 bytes ≡ head → Judged side bytes (Err e))
    → IsSome file × IfSome file (λ bytes. (length bytes ≡ size) × (take 8 bytes ≡ head)) → Gives {X = Reading} (Err e) (opening name side file)
error_at name side e head size None judged there = let none : IsSome {T = List ℕ} None = there.0 in absurd cc
error_at name side e head size (Some bytes) judged there = error_gives name side bytes e (judged bytes there.1.0 there.1.1)

-- a file that is refused by its header or its length
pub refused_answer : (told : Option Files) (name : List ℕ) (side : Side) (e : FileError) (head : List ℕ) (size : ℕ)
    → ((bytes : List ℕ) → length bytes ≡ size → take 8 bytes ≡ head → Judged side bytes (Err e))
    → IfSome told (λ held. IsSome (get held name) × IfSome (get held name) (λ bytes. (length bytes ≡ size) × (take 8 bytes ≡ head)))
    → IfSome told (λ held. Gives {X = Reading} (Err e) (opening name side (get held name)))
refused_answer told name side e head size judged there =
    on_file told name (λ file. IsSome file × IfSome file (λ bytes. (length bytes ≡ size) × (take 8 bytes ≡ head)))
    (λ file. Gives {X = Reading} (Err e) (opening name side file)) (λ file h. error_at name side e head size file judged h) there

opened_at : (name : List ℕ) (side : Side) (width count : ℕ) (head : List ℕ) (size : ℕ) (file : Option (List ℕ))
    → ((bytes : List ℕ) → length bytes ≡ size → take 8 bytes ≡ head → Judged side bytes (Ok (width, count)))
    → IsSome file × IfSome file (λ bytes. (length bytes ≡ size) × (take 8 bytes ≡ head))
    → (opening name side file ≡ Ok (start name side width count)) × IsSome file × IfSome file (λ bytes. IsOf bytes (start name side width count))
opened_at name side width count head size None judged there = let none : IsSome {T = List ℕ} None = there.0 in absurd cc
opened_at name side width count head size (Some bytes) judged there =
    let whole_it = judged bytes there.1.0 there.1.1 in (
      ap (opened name side bytes) whole_it.0 ∙ ap (λ n. Ok (start name side width n)) whole_it.1,
      there.0,
      record { whole_file = whole_it.0; counted = whole_it.1; not_cut = refl; held = refl },
    )

-- a file that is opened, and that its reader fits it
opened_there : (told : Option Files) (name : List ℕ) (side : Side) (width count : ℕ) (head : List ℕ) (size : ℕ)
    → ((bytes : List ℕ) → length bytes ≡ size → take 8 bytes ≡ head → Judged side bytes (Ok (width, count)))
    → IfSome told (λ held. IsSome (get held name) × IfSome (get held name) (λ bytes. (length bytes ≡ size) × (take 8 bytes ≡ head)))
    → IfSome told (λ held. (opening name side (get held name) ≡ Ok (start name side width count)) × IsSome (get held name)
    × IfSome (get held name) (λ bytes. IsOf bytes (start name side width count)))
opened_there told name side width count head size judged there =
    on_file told name (λ file. IsSome file × IfSome file (λ bytes. (length bytes ≡ size) × (take 8 bytes ≡ head)))
    (λ file. (opening name side file ≡ Ok (start name side width count)) × IsSome file × IfSome file (λ bytes. IsOf bytes (start name side width count)))
    (λ file h. opened_at name side width count head size file judged h) there

bytes-weaker : (file : Option (List ℕ)) (P Q : List ℕ → Type 0) → ((bytes : List ℕ) → P bytes → Q bytes) → IfSome file P → IfSome file Q
bytes-weaker None P Q step p = tt
bytes-weaker (Some bytes) P Q step p = step bytes p

pub there-weaker : (told : Option Files) (name : List ℕ) (P Q : List ℕ → Type 0) → ((bytes : List ℕ) → P bytes → Q bytes) → IfThere told name P → IfThere told name Q
there-weaker None name P Q step p = tt
there-weaker (Some held) name P Q step p = bytes-weaker (get held name) P Q step p

some_weaker : (told : Option Files) (P Q : Files → Type 0) → ((held : Files) → P held → Q held) → IfSome told P → IfSome told Q
some_weaker None P Q step p = tt
some_weaker (Some held) P Q step p = step held p

pub opened_answer : (told : Option Files) (name : List ℕ) (side : Side) (width count : ℕ) (head : List ℕ) (size : ℕ)
    → ((bytes : List ℕ) → length bytes ≡ size → take 8 bytes ≡ head → Judged side bytes (Ok (width, count)))
    → IfSome told (λ held. IsSome (get held name) × IfSome (get held name) (λ bytes. (length bytes ≡ size) × (take 8 bytes ≡ head)))
    → IfSome told (λ held. opening name side (get held name) ≡ Ok (start name side width count))
opened_answer told name side width count head size judged there =
    some_weaker told _ (λ held. opening name side (get held name) ≡ Ok (start name side width count)) (λ held h. h.0)
    (opened_there told name side width count head size judged there)

pub opened_fits : (told mid : Option Files) (name : List ℕ) (side : Side) (width count : ℕ) (head : List ℕ) (size : ℕ) → mid ≡ told
    → ((bytes : List ℕ) → length bytes ≡ size → take 8 bytes ≡ head → Judged side bytes (Ok (width, count)))
    → IfSome told (λ held. IsSome (get held name) × IfSome (get held name) (λ bytes. (length bytes ≡ size) × (take 8 bytes ≡ head)))
    → Fits mid (start name side width count)
opened_fits told mid name side width count head size same judged there =
    let all = opened_there told name side width count head size judged there in
    subst (λ m. Fits m (start name side width count)) (sym same) (
      some_weaker told _ (λ held. IsSome (get held name)) (λ held h. h.1) all,
      some_weaker told _ (λ held. IfSome (get held name) (λ bytes. IsOf bytes (start name side width count))) (λ held h. h.2) all,
    )

-- what a told file gives in the place of the next record, at the end
pub end_answer : (told : Option Files) (reader : Reading) → Fits told reader → reader.next ≡ reader.count
    → IfThere told reader.name (λ bytes. Gives (Ok given.End) (Ok (record_answer reader.next (records reader.width bytes))))
end_answer told reader fits p =
    there-weaker told reader.name (λ bytes. IsOf bytes reader) (λ bytes. Gives (Ok given.End) (Ok (record_answer reader.next (records reader.width bytes))))
    (λ bytes it. ap (λ (o : Option RecordCase). Ok (answer reader.next o))
    (record_past reader.width bytes (record_count reader.width bytes) reader.next (omega (arith, it.counted))))
    fits.1

-- the bytes of the next record, where as many were read as it has
record_is : (bytes into : List ℕ) (reader : Reading) (filled : ℕ) → filled ≡ record_len reader.width → length into ≡ filled
    → take filled into ≡ take filled (drop (next_offset reader) bytes) → into ≡ record_at reader.width bytes reader.next
record_is bytes into reader filled long same read =
    let few : next_offset reader + record_len reader.width - next_offset reader ≡ filled = omega arith in
    sym (take_all filled into (omega arith)) ∙ read ∙ ap (λ n. take n (drop (next_offset reader) bytes)) (sym few)

-- what a told file gives in the place of the next record
pub given_answer : (told : Option Files) (reader : Reading) (into : List ℕ) (room filled number width : ℕ) (part : List ℕ) (r : Record) → Fits told reader → reader.next < reader.count
    → IfThere told reader.name (λ bytes. (filled ≡ min room (length bytes - next_offset reader)) × (take filled into ≡ take filled (drop (next_offset reader) bytes)))
    → filled ≡ record_len reader.width → length into ≡ filled → r ≡ answer number (Some (record_case width part))
    → number ≡ reader.next → width ≡ reader.width → part ≡ into
    → IfThere told reader.name (λ bytes. Gives (Ok r) (Ok (record_answer reader.next (records reader.width bytes))))
given_answer told reader into room filled number width part r fits p read long same is_it n w b =
    let answered : r ≡ answer reader.next (Some (record_case reader.width into)) = is_it ∙ rw (n, w, b) refl in
    there-both {P = λ bytes. IsOf bytes reader}
    {Q = λ bytes. (filled ≡ min room (length bytes - next_offset reader)) × (take filled into ≡ take filled (drop (next_offset reader) bytes))}
    {R = λ bytes. Gives (Ok r) (Ok (record_answer reader.next (records reader.width bytes)))}
    told reader.name
    (λ bytes it now.
    let got = record_got reader.width bytes (record_count reader.width bytes) reader.next (omega (arith, it.counted)) in
    ap (λ (o : Option RecordCase). Ok (answer reader.next o)) got
    ∙ ap (λ (bs : List ℕ). Ok (answer reader.next (Some (record_case reader.width bs)))) (sym (record_is bytes into reader filled long same now.1))
    ∙ ap Ok (sym answered))
    fits.1 read
