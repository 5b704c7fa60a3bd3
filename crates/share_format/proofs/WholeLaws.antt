-- A file of shares is whole, and its records are these shares.
use Rattle.std.proofs.Common.{◌≡◌, ℕ, zero, suc, ◌+◌, ◌*◌, ◌-◌, ◌/◌, ◌%◌, ◌<◌, ◌≤◌, List, [], ◌∷◌, ◌++◌, length, get_or, take, drop, map, All, refl, sym, ap, ap₂, ◌∙◌, arith, None, add-one}
use Rattle.std.specs.Prelude.{IsTrue}
use Rattle.std.specs.List.{flat_map}
use Rattle.std.proofs.lemmas.List.{take_at, take_all, take_more, length-append, map-append}
use Rattle.std.proofs.lemmas.List.Elements.{All-weaker, All-get_or}
use Rattle.std.proofs.Math.Nat.{mul-mod_right, mul-div_cancel_left}
use Rattle.std.proofs.Math.Seq.{drop-append-add}
use Rattle.definitions.specs.declared.Side.{Side}
use Rattle.definitions.specs.Evaluation.{Share}
use Rattle.share_format.specs.Spelling.{header, record_len, spelling}
use Rattle.share_format.specs.ShareFile.{is_width, header_fault, file_case, whole, record_offset, record_at, RecordCase, well_formed, record_case, first_records, records, most_bytes}
use Rattle.share_format.specs.Laws.{IsShare, file_of}
use Rattle.share_format.proofs.PieceLaws.{HaveLength, length-pieces, piece_at}
use Rattle.share_format.proofs.RecordLaws.{length-spelling, reading_law}
use Rattle.share_format.proofs.HeaderSteps.{header_law}
use Rattle.share_format.proofs.FileLaws.{whole_file}

no_share : Share
no_share = record { id = []; root = []; corr = []; levels = [] }

same_lengths : (width : ℕ) (shares : List Share) → All (IsShare width) shares → HaveLength spelling (record_len width) shares
same_lengths width shares fits = All-weaker (IsShare width) (λ share. length (spelling share) ≡ record_len width) (length-spelling width) shares fits

length-file_of : (side : Side) (width : ℕ) (shares : List Share) → All (IsShare width) shares
    → length (file_of side width shares) ≡ record_offset width (length shares)
length-file_of side width shares fits =
    length-append (header side width) (flat_map spelling shares)
    ∙ ap (λ n. 8 + n) (length-pieces spelling (record_len width) shares (same_lengths width shares fits))

-- the bytes of a record are the spelling of its share
record_at-file_of : (side : Side) (width : ℕ) (shares : List Share) (number : ℕ) → All (IsShare width) shares → number < length shares
    → record_at width (file_of side width shares) number ≡ spelling (get_or shares number no_share)
record_at-file_of side width shares number fits p =
    let few : record_offset width number + record_len width - record_offset width number ≡ record_len width = omega arith in
    ap (λ n. take n (drop (record_offset width number) (file_of side width shares))) few
    ∙ ap (λ (t : List ℕ). take (record_len width) t) (drop-append-add (header side width) (flat_map spelling shares) (record_len width * number))
    ∙ piece_at spelling (record_len width) shares number no_share (same_lengths width shares fits) p

first_records-file_of : (side : Side) (width : ℕ) (shares : List Share) (count : ℕ) → All (IsShare width) shares → count ≤ length shares
    → first_records width (file_of side width shares) count ≡ map well_formed (take count shares)
unfolding first_records
first_records-file_of side width shares zero fits p = refl
first_records-file_of side width shares (suc count) fits p =
    let one : IsShare width (get_or shares count no_share) = All-get_or (IsShare width) shares count no_share (omega arith) fits in
    let case : record_case width (record_at width (file_of side width shares) count) ≡ well_formed (get_or shares count no_share) =
    ap (record_case width) (record_at-file_of side width shares count fits (omega arith)) ∙ (reading_law width (get_or shares count no_share) one).1 in
    ap₂ (λ (cs : List RecordCase) (c : RecordCase). cs ++ c ∷ []) (first_records-file_of side width shares count fits (omega arith)) case
    ∙ sym (map-append well_formed (take count shares) (get_or shares count no_share ∷ []))
    ∙ ap (λ (ss : List Share). map well_formed ss) (sym (take_more shares count no_share (omega arith)))
    ∙ ap (λ n. map well_formed (take n shares)) (add-one count)

-- a file of shares is whole, and its records are these shares
pub file_law : (side : Side) (width : ℕ) (shares : List Share) → IsTrue (is_width width) → All (IsShare width) shares
    → record_offset width (length shares) ≤ most_bytes
    → (file_case side (file_of side width shares) ≡ whole width) × (records width (file_of side width shares) ≡ map well_formed shares)
file_law side width shares good fits room =
    let bytes = file_of side width shares in
    let count = length shares in
    let len = record_len width in
    let size = record_offset width count in
    let front : take 8 bytes ≡ header side width = take_at (header side width) (flat_map spelling shares) 8 refl in
    let right : header_fault side (header side width) ≡ None = header_law side width (header side width) good refl in
    let rest : size - 8 ≡ len * count = omega arith in
    let none : (size - 8) % len ≡ 0 = ap (λ n. n % len) rest ∙ mul-mod_right len count in
    let all : (size - 8) / len ≡ count = ap (λ n. n / len) rest ∙ mul-div_cancel_left count (omega arith) in
    let it = whole_file side bytes (header side width) size width len (length-file_of side width shares fits) room front right refl refl none in (
      it.0,
      ap (first_records width bytes) (it.1 ∙ all) ∙ first_records-file_of side width shares count fits (omega arith)
          ∙ ap (λ (ss : List Share). map well_formed ss) (take_all count shares (omega arith)),
    )
