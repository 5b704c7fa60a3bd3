-- What is true of the strings of a file of lines: how many bits each has, and how many there may be.
use Rattle.std.proofs.Common.{◌≡◌, ◌≤◌, ◌-◌, ◌*◌, ◌∙◌, ℕ, suc, Bool, List, [], ◌∷◌, Option, None, Some, length, map, replicate, inl, inr, refl, sym, ap, arith, length-append}
use Rattle.std.specs.List.{All}
use Rattle.std.specs.Option.{unwrap_or}
use Rattle.std.proofs.lemmas.Bool.{cases_lt, cases_Bool, lt-ltb, le-ltb}
use Rattle.std.proofs.lemmas.List.{length-replicate, length-map}
use Rattle.std.proofs.lemmas.List.Elements.{All-nil, All-cons, All-map}
use Rattle.prefix_bits.proofs.Bytes.{length-bits_of_bytes}
use Rattle.text_strings.specs.Lines.{LinesCase, too_many, line_long, zero_byte, strings, lines_of, padded, string_of, has_zero, first_fault, share_bytes, most_share_bytes, most_strings, lines_case}

-- a fault is never a list of strings
first_fault-strings : (width number : ℕ) (lines : List (List ℕ)) (them : List (List Bool)) → first_fault width number lines ≡ Some (strings them) → ⊥
first_fault-strings width number [] them e = cc
first_fault-strings width number (line ∷ lines) them e =
    elim (cases_lt width (length line)) [
      | inl long ↦ let other : Some (line_long number) ≡ Some (strings them) = rw (lt-ltb width (length line) long) at e in cc
      | inr short ↦ elim (cases_Bool (has_zero line)) [
        | inl zero_there ↦
            let other : Some (zero_byte number) ≡ Some (strings them) = rw (le-ltb width (length line) short, zero_there) at e in cc
        | inr none ↦ first_fault-strings width (suc number) lines them (rw (le-ltb width (length line) short, none) at e)
      ]
    ]

-- lines without a fault are no longer than the width
lines_fit : (width number : ℕ) (lines : List (List ℕ)) → first_fault width number lines ≡ None → All (λ line. length line ≤ width) lines
lines_fit width number [] e = All-nil (λ line. length line ≤ width)
lines_fit width number (line ∷ lines) e =
    elim (cases_lt width (length line)) [
      | inl long ↦ let other : Some (line_long number) ≡ None = rw (lt-ltb width (length line) long) at e in cc
      | inr short ↦ elim (cases_Bool (has_zero line)) [
        | inl zero_there ↦
            let other : Some (zero_byte number) ≡ None = rw (le-ltb width (length line) short, zero_there) at e in cc
        | inr none ↦ All-cons (λ line. length line ≤ width) line lines short
            (lines_fit width (suc number) lines (rw (le-ltb width (length line) short, none) at e))
      ]
    ]

-- the bits of the string of a line
length-string_of : (width : ℕ) (line : List ℕ) → length line ≤ width → length (string_of width line) ≡ 8 * width
length-string_of width line short =
    let bits = length-bits_of_bytes (padded width line) in
    let bytes = length-append line (replicate {A = ℕ} (width - length line) 0) in
    let zeros = length-replicate {A = ℕ} (width - length line) 0 in
    omega arith

-- the strings of lines without a fault have the bits of so many bytes
pub strings_of_lines_are_whole : (width : ℕ) (lines : List (List ℕ)) → first_fault width 0 lines ≡ None
    → All (λ string. length string ≡ 8 * width) (map (string_of width) lines)
strings_of_lines_are_whole width lines good =
    All-map (λ (string : List Bool). length string ≡ 8 * width) (string_of width) lines
    (λ i d h. length-string_of width _ (lines_fit width 0 lines good i d h))

-- strings come of no fault
no_fault : (fault : Option LinesCase) (mine them : List (List Bool)) → (fault ≡ Some (strings them) → ⊥)
    → unwrap_or fault (strings mine) ≡ strings them → (fault ≡ None) × (mine ≡ them)
no_fault None mine them never e = (refl, cc)
no_fault (Some found) mine them never e = absurd (never (ap Some e))

-- where the bytes hold strings, there are few enough lines, none of them is at fault, and the strings are those of the lines
pub from_strings : (width : ℕ) (bytes : List ℕ) (them : List (List Bool)) → lines_case width bytes ≡ strings them
    → (share_bytes width (length (lines_of bytes)) ≤ most_share_bytes)
    × (first_fault width 0 (lines_of bytes) ≡ None)
    × (map (string_of width) (lines_of bytes) ≡ them)
from_strings width bytes them e =
    elim (cases_lt most_share_bytes (share_bytes width (length (lines_of bytes)))) [
      | inl many ↦
          let other : too_many (length (lines_of bytes)) ≡ strings them =
          rw (lt-ltb most_share_bytes (share_bytes width (length (lines_of bytes))) many) at e in
          cc
      | inr few ↦
          let good = no_fault (first_fault width 0 (lines_of bytes)) (map (string_of width) (lines_of bytes)) them
          (first_fault-strings width 0 (lines_of bytes) them)
          (rw (le-ltb most_share_bytes (share_bytes width (length (lines_of bytes))) few) at e) in
          (few, good.0, good.1)
    ]

-- each string has the bits of so many bytes
pub strings_are_whole : (width : ℕ) (bytes : List ℕ) (them : List (List Bool)) → lines_case width bytes ≡ strings them
    → All (λ string. length string ≡ 8 * width) them
strings_are_whole width bytes them e =
    let found = from_strings width bytes them e in
    rw (← found.2) (strings_of_lines_are_whole width (lines_of bytes) found.1)

-- there are no more strings than there can be shares of width 1 in a file
pub strings_are_few : (width : ℕ) (bytes : List ℕ) (them : List (List Bool)) → 1 ≤ width → lines_case width bytes ≡ strings them
    → length them ≤ most_strings
strings_are_few width bytes them some e =
    let found = from_strings width bytes them e in
    let count = ap length (sym found.2) ∙ length-map (lines_of bytes) (string_of width) in
    let few = found.0 in
    grind arith
