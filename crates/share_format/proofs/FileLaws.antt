-- What the length and the header of a file say of its case, and its records by their numbers.
use Rattle.std.proofs.lemmas.Option.{slice_get-get_or, slice_get_past}
use Rattle.std.proofs.lemmas.Bool.{cases_lt}
use Rattle.std.proofs.Common.{◌≡◌, ◌≢◌, ℕ, ◌+◌, ◌*◌, ◌-◌, ◌/◌, ◌%◌, ◌<◌, ◌≤◌, Bool, true, false, List, length, get_or, take, Option, None, Some, refl, sym, ap, ap₂, ◌∙◌, arith, eqb, ltb, zero, suc, ◌++◌, ◌∷◌, [], inl, inr, add-one}
use Rattle.std.specs.Prelude.{◌&&◌, min, slice_get}
use Rattle.std.proofs.lemmas.Bool.Decides.{nat_tests}
use Rattle.std.proofs.lemmas.List.{take_all, get_or-take, length-take, get_or_append_left, get_or_at, length-append}
use Rattle.definitions.specs.declared.Side.{Side}
use Rattle.share_format.specs.Spelling.{record_len}
use Rattle.share_format.specs.ShareFile.{may_stand, is_header_byte, header_fault, too_long, header_wrong, cut, whole, length_case, header_case, most_bytes, file_case, record_count, record_offset, records, first_records, record_at, record_case, RecordCase, malformed}
use Rattle.share_format.proofs.FailingLaws.{first_failing-same}

same_there : (n at : ℕ) → at < 8 → ltb at (min 8 n) ≡ ltb at n
same_there n at p = grind (arith, nat_tests)

-- the header's fault is that of the first 8 bytes
pub header_fault-front : (side : Side) (bytes : List ℕ) → header_fault side (take 8 bytes) ≡ header_fault side bytes
header_fault-front side bytes =
    first_failing-same (is_header_byte side (take 8 bytes)) (is_header_byte side bytes) 8
    (λ at p. ap₂ (λ (b : Bool) (n : ℕ). b && may_stand side at n)
    (ap (ltb at) (length-take 8 bytes) ∙ same_there (length bytes) at p)
    (get_or-take 8 bytes at 0 p))

-- a file that is too long
pub long_file : (side : Side) (bytes : List ℕ) → most_bytes < length bytes → file_case side bytes ≡ too_long (length bytes)
unfolding file_case
long_file side bytes p = let long : ltb most_bytes (length bytes) ≡ true = grind (arith, nat_tests) in rw long refl

-- the case of a file that is not too long
short_file : (side : Side) (bytes head : List ℕ) (found : Option ℕ) → length bytes ≤ most_bytes → take 8 bytes ≡ head → header_fault side head ≡ found
    → file_case side bytes ≡ header_case found bytes
unfolding file_case
short_file side bytes head found p front e =
    let short : ltb most_bytes (length bytes) ≡ false = grind (arith, nat_tests) in
    let same : header_fault side bytes ≡ found = sym (header_fault-front side bytes) ∙ ap (header_fault side) front ∙ e in
    rw (short, same) refl

-- a header that is wrong
pub wrong_header : (side : Side) (bytes head : List ℕ) (size at : ℕ) → length bytes ≡ size → size ≤ most_bytes → take 8 bytes ≡ head
    → header_fault side head ≡ Some at → file_case side bytes ≡ header_wrong at
wrong_header side bytes head size at long p front e = short_file side bytes head (Some at) (omega arith) front e

-- the width behind a right header
width_is : (bytes head : List ℕ) (width : ℕ) → take 8 bytes ≡ head → get_or head 6 0 ≡ width → get_or bytes 6 0 ≡ width
width_is bytes head width front e = sym (get_or-take 8 bytes 6 0 (omega arith)) ∙ ap (λ (xs : List ℕ). get_or xs 6 0) front ∙ e

right_header : (side : Side) (bytes head : List ℕ) (size width : ℕ) → length bytes ≡ size → size ≤ most_bytes → take 8 bytes ≡ head
    → header_fault side head ≡ None → get_or head 6 0 ≡ width → file_case side bytes ≡ length_case width size
right_header side bytes head size width long p front e w =
    short_file side bytes head None (omega arith) front e ∙ ap₂ length_case (width_is bytes head width front w) long

offset_at : (size len : ℕ) → 8 ≤ size → 0 < len → 8 + len * ((size - 8) / len) ≡ size - (size - 8) % len
offset_at size len p some = omega arith

-- a last record that is not whole, with the offset where it begins
pub cut_file : (side : Side) (bytes head : List ℕ) (size width len : ℕ) → length bytes ≡ size → size ≤ most_bytes → take 8 bytes ≡ head
    → header_fault side head ≡ None → get_or head 6 0 ≡ width → len ≡ record_len width → 8 ≤ size → (size - 8) % len ≢ 0
    → file_case side bytes ≡ cut (size - (size - 8) % len)
cut_file side bytes head size width len long p front e w l least partial =
    let some : eqb ((size - 8) % record_len width) 0 ≡ false = grind (arith, nat_tests) in
    let offset : record_offset width ((size - 8) / record_len width) ≡ size - (size - 8) % len =
    offset_at size (record_len width) least (omega arith) ∙ ap (λ n. size - (size - 8) % n) (sym l) in
    right_header side bytes head size width long p front e w ∙ rw some (ap cut offset)

-- whole records, and their number
pub whole_file : (side : Side) (bytes head : List ℕ) (size width len : ℕ) → length bytes ≡ size → size ≤ most_bytes → take 8 bytes ≡ head
    → header_fault side head ≡ None → get_or head 6 0 ≡ width → len ≡ record_len width → (size - 8) % len ≡ 0
    → (file_case side bytes ≡ whole width) × (record_count width bytes ≡ (size - 8) / len)
whole_file side bytes head size width len long p front e w l none =
    let all : eqb ((size - 8) % record_len width) 0 ≡ true = grind (arith, nat_tests) in
    (right_header side bytes head size width long p front e w ∙ rw all refl, rw (long, l) refl)

pub first_records-more : (width : ℕ) (bytes : List ℕ) (count : ℕ)
    → first_records width bytes (suc count) ≡ first_records width bytes count ++ record_case width (record_at width bytes count) ∷ []
unfolding first_records
first_records-more width bytes count = refl

pub length-first_records : (width : ℕ) (bytes : List ℕ) (count : ℕ) → length (first_records width bytes count) ≡ count
unfolding first_records
length-first_records width bytes zero = refl
length-first_records width bytes (suc count) =
    length-append (first_records width bytes count) (record_case width (record_at width bytes count) ∷ [])
    ∙ ap (λ n. n + 1) (length-first_records width bytes count) ∙ add-one count

-- the file's records are as many as its length says
pub length-records : (width : ℕ) (bytes : List ℕ) → length (records width bytes) ≡ record_count width bytes
length-records width bytes = length-first_records width bytes (record_count width bytes)

-- so many of them are all
pub all_records : (width : ℕ) (bytes : List ℕ) (k : ℕ) → record_count width bytes ≡ k → take k (records width bytes) ≡ records width bytes
all_records width bytes k e = take_all k (records width bytes) (omega (arith, length-records width bytes, e))

-- the case of the record of a number
case_at : (width : ℕ) (bytes : List ℕ) (count number : ℕ) → number < count
    → get_or (first_records width bytes count) number malformed ≡ record_case width (record_at width bytes number)
case_at width bytes zero number p = absurd (omega arith)
case_at width bytes (suc count) number p =
    let case : RecordCase = record_case width (record_at width bytes count) in
    let long = length-first_records width bytes count in
    ap (λ (cases : List RecordCase). get_or cases number malformed) (first_records-more width bytes count)
    ∙ elim (cases_lt number count) [
      | inl lower ↦
          get_or_append_left (first_records width bytes count) (record_case width (record_at width bytes count) ∷ []) malformed number (omega arith)
          ∙ case_at width bytes count number lower
      | inr not_lower ↦
          let same : number ≡ count = omega arith in
          let at_end : length (first_records width bytes count) ≡ number = long ∙ sym same in
          get_or_at (first_records width bytes count) (record_case width (record_at width bytes count)) [] malformed number at_end
          ∙ ap (λ n. record_case width (record_at width bytes n)) (sym same)
    ]

pub record_got : (width : ℕ) (bytes : List ℕ) (count number : ℕ) → number < count
    → slice_get (first_records width bytes count) number ≡ Some (record_case width (record_at width bytes number))
record_got width bytes count number p =
    slice_get-get_or (first_records width bytes count) number malformed (omega (arith, length-first_records width bytes count))
    ∙ ap Some (case_at width bytes count number p)

pub record_past : (width : ℕ) (bytes : List ℕ) (count number : ℕ) → count ≤ number → slice_get (first_records width bytes count) number ≡ None
record_past width bytes count number p = slice_get_past (first_records width bytes count) number (omega (arith, length-first_records width bytes count))
