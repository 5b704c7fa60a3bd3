-- The elements of a message, one more at a time.
use Rattle.std.proofs.Common.{◌≡◌, ℕ, suc, ◌+◌, ◌-◌, ◌*◌, ◌<◌, ◌≤◌, List, [], ◌∷◌, ◌++◌, Ok, Err, length, take, drop, refl, sym, ◌∙◌, ap, arith, length-drop}
use Rattle.std.specs.Prelude.{Result, if◌then◌else◌, nat_le}
use Rattle.std.specs.Int.{w64, from_le_bytes}
use Rattle.std.proofs.lemmas.Bool.{lt-ltb, le-ltb, le-leb, lt-leb}
use Rattle.std.proofs.lemmas.List.{get_or-take}
use Rattle.std.proofs.Math.Seq.{drop-drop}
use Rattle.byteorder.specs.Endian.{little_number}
use Rattle.definitions.specs.Field.{modulus}
use Rattle.walk_definitions.specs.Messages.{after_number, numbers_in}

-- what is read behind numbers that were read
abbrev pub read_after : List ℕ → Result (List ℕ) ℕ → Result (List ℕ) ℕ
read_after [] read = read
read_after (n ∷ ns) read = after_number n (read_after ns read)

pub read_after-ok : (ns : List ℕ) → read_after ns (Ok []) ≡ Ok ns
read_after-ok [] = refl
read_after-ok (n ∷ ns) = ap (after_number n) (read_after-ok ns)

pub read_after-err : (ns : List ℕ) (at : ℕ) → read_after ns (Err at) ≡ Err at
read_after-err [] at = refl
read_after-err (n ∷ ns) at = ap (after_number n) (read_after-err ns at)

pub read_after-push : (ns : List ℕ) (n : ℕ) (read : Result (List ℕ) ℕ) → read_after (ns ++ n ∷ []) read ≡ read_after ns (after_number n read)
read_after-push [] n read = refl
read_after-push (m ∷ ns) n read = ap (after_number m) (read_after-push ns n read)

-- the number that eight bytes spell, as `byteorder` reads it
pub number_there : (bytes : List ℕ) → 8 ≤ length bytes → from_le_bytes w64 (take 8 bytes) ≡ little_number 8 bytes
number_there bytes enough =
    omega (
      arith,
      get_or-take 8 bytes 0 0 (omega arith),
      get_or-take 8 bytes 1 0 (omega arith),
      get_or-take 8 bytes 2 0 (omega arith),
      get_or-take 8 bytes 3 0 (omega arith),
      get_or-take 8 bytes 4 0 (omega arith),
      get_or-take 8 bytes 5 0 (omega arith),
      get_or-take 8 bytes 6 0 (omega arith),
      get_or-take 8 bytes 7 0 (omega arith),
    )

-- bytes that end before the next element is whole
pub too_short : (left at : ℕ) (bytes : List ℕ) → length bytes < 8 → numbers_in (suc left) at bytes ≡ Err (at + length bytes)
too_short left at bytes short =
    ap (λ b. if b then Err (at + length bytes)
    else if nat_le modulus (from_le_bytes w64 (take 8 bytes)) then Err at
    else after_number (from_le_bytes w64 (take 8 bytes)) (numbers_in left (at + 8) (drop 8 bytes))) (lt-ltb (length bytes) 8 short)

-- eight bytes that spell no element
pub too_large : (left at n : ℕ) (bytes : List ℕ) → 8 ≤ length bytes → n ≡ little_number 8 bytes → modulus ≤ n → numbers_in (suc left) at bytes ≡ Err at
too_large left at n bytes enough spelled large =
    ap (λ b. if b then Err (at + length bytes)
    else if nat_le modulus (from_le_bytes w64 (take 8 bytes)) then Err at
    else after_number (from_le_bytes w64 (take 8 bytes)) (numbers_in left (at + 8) (drop 8 bytes))) (le-ltb (length bytes) 8 enough)
    ∙ ap (λ m. if nat_le modulus m then Err at else after_number m (numbers_in left (at + 8) (drop 8 bytes))) (number_there bytes enough ∙ sym spelled)
    ∙ ap (λ b. if b then Err at else after_number n (numbers_in left (at + 8) (drop 8 bytes))) (le-leb modulus n large)

-- eight bytes that spell an element
pub one_more : (left at n : ℕ) (bytes : List ℕ) → 8 ≤ length bytes → n ≡ little_number 8 bytes → n < modulus
    → numbers_in (suc left) at bytes ≡ after_number n (numbers_in left (at + 8) (drop 8 bytes))
one_more left at n bytes enough spelled below =
    ap (λ b. if b then Err (at + length bytes)
    else if nat_le modulus (from_le_bytes w64 (take 8 bytes)) then Err at
    else after_number (from_le_bytes w64 (take 8 bytes)) (numbers_in left (at + 8) (drop 8 bytes))) (le-ltb (length bytes) 8 enough)
    ∙ ap (λ m. if nat_le modulus m then Err at else after_number m (numbers_in left (at + 8) (drop 8 bytes))) (number_there bytes enough ∙ sym spelled)
    ∙ ap (λ b. if b then Err at else after_number n (numbers_in left (at + 8) (drop 8 bytes))) (lt-leb modulus n below)

-- ---- after i elements of a message

-- what is read of the bytes from a place on
abbrev pub reads_on : ℕ → ℕ → List ℕ → Result (List ℕ) ℕ
reads_on left place bytes = numbers_in left place (drop place bytes)

pub ends_early : (count i : ℕ) (ns bytes : List ℕ) (all : Result (List ℕ) ℕ) → i < count → 7 + 8 * i ≤ length bytes → length bytes - (7 + 8 * i) < 8
    → all ≡ read_after ns (reads_on (count - i) (7 + 8 * i) bytes) → all ≡ Err (length bytes)
ends_early count i ns bytes all more inside short same =
    let left : count - i ≡ suc (count - (i + 1)) = omega arith in
    let size : length (drop (7 + 8 * i) bytes) ≡ length bytes - (7 + 8 * i) = length-drop (7 + 8 * i) bytes in
    let few : length (drop (7 + 8 * i) bytes) < 8 = omega arith in
    let whole : 7 + 8 * i + length (drop (7 + 8 * i) bytes) ≡ length bytes = omega arith in
    same ∙ ap (λ k. read_after ns (reads_on k (7 + 8 * i) bytes)) left
    ∙ ap (read_after ns) (too_short (count - (i + 1)) (7 + 8 * i) (drop (7 + 8 * i) bytes) few ∙ ap Err whole)
    ∙ read_after-err ns (length bytes)

pub no_element : (count i n : ℕ) (ns bytes : List ℕ) (all : Result (List ℕ) ℕ) → i < count → 7 + 8 * i + 8 ≤ length bytes
    → n ≡ little_number 8 (drop (7 + 8 * i) bytes) → modulus ≤ n
    → all ≡ read_after ns (reads_on (count - i) (7 + 8 * i) bytes) → all ≡ Err (7 + 8 * i)
no_element count i n ns bytes all more inside spelled large same =
    let left : count - i ≡ suc (count - (i + 1)) = omega arith in
    let size : length (drop (7 + 8 * i) bytes) ≡ length bytes - (7 + 8 * i) = length-drop (7 + 8 * i) bytes in
    let enough : 8 ≤ length (drop (7 + 8 * i) bytes) = omega arith in
    same ∙ ap (λ k. read_after ns (reads_on k (7 + 8 * i) bytes)) left
    ∙ ap (read_after ns) (too_large (count - (i + 1)) (7 + 8 * i) n (drop (7 + 8 * i) bytes) enough spelled large)
    ∙ read_after-err ns (7 + 8 * i)

pub next_element : (count i n : ℕ) (ns more_ns bytes : List ℕ) (all : Result (List ℕ) ℕ) → i < count → 7 + 8 * i + 8 ≤ length bytes
    → n ≡ little_number 8 (drop (7 + 8 * i) bytes) → n < modulus → more_ns ≡ ns ++ n ∷ []
    → all ≡ read_after ns (reads_on (count - i) (7 + 8 * i) bytes)
    → all ≡ read_after more_ns (reads_on (count - (i + 1)) (7 + 8 * (i + 1)) bytes)
next_element count i n ns more_ns bytes all more inside spelled below pushed same =
    let left : count - i ≡ suc (count - (i + 1)) = omega arith in
    let size : length (drop (7 + 8 * i) bytes) ≡ length bytes - (7 + 8 * i) = length-drop (7 + 8 * i) bytes in
    let enough : 8 ≤ length (drop (7 + 8 * i) bytes) = omega arith in
    let next : 7 + 8 * i + 8 ≡ 7 + 8 * (i + 1) = omega arith in
    same ∙ ap (λ k. read_after ns (reads_on k (7 + 8 * i) bytes)) left
    ∙ ap (read_after ns) (one_more (count - (i + 1)) (7 + 8 * i) n (drop (7 + 8 * i) bytes) enough spelled below
    ∙ ap (λ bs. after_number n (numbers_in (count - (i + 1)) (7 + 8 * i + 8) bs)) (drop-drop 8 (7 + 8 * i) bytes)
    ∙ ap (λ k. after_number n (reads_on (count - (i + 1)) k bytes)) next)
    ∙ sym (read_after-push ns n (reads_on (count - (i + 1)) (7 + 8 * (i + 1)) bytes))
    ∙ ap (λ xs. read_after xs (reads_on (count - (i + 1)) (7 + 8 * (i + 1)) bytes)) (sym pushed)

pub all_read : (count i : ℕ) (ns bytes : List ℕ) (all : Result (List ℕ) ℕ) → count ≤ i
    → all ≡ read_after ns (reads_on (count - i) (7 + 8 * i) bytes) → all ≡ Ok ns
all_read count i ns bytes all done same =
    let left : count - i ≡ 0 = omega arith in
    same ∙ ap (λ k. read_after ns (reads_on k (7 + 8 * i) bytes)) left ∙ read_after-ok ns
