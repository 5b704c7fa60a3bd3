-- Reading from the front of bytes, and of a message.
use Rattle.std.proofs.Common.{◌≡◌, ℕ, zero, suc, ◌+◌, ◌-◌, ◌*◌, ◌<◌, ◌≤◌, List, [], ◌∷◌, ◌++◌, None, Some, Ok, Err, length, take, drop, refl, sym, ◌∙◌, ap, arith, append_assoc}
use mathlib.Core.Logic.{inl, inr}
use Rattle.std.specs.Prelude.{◌⊎◌, Result, if◌then◌else◌, ◌==◌, nat_le}
use Rattle.std.specs.Int.{w64, to_le_bytes, from_le_bytes}
use Rattle.std.specs.List.{All}
use Rattle.std.proofs.lemmas.Bool.{eq-eqb, le-ltb, lt-leb, cases_lt}
use Rattle.std.proofs.lemmas.List.{take_all, take-take, drop-take, length-take-le}
use Rattle.std.proofs.lemmas.List.Elements.{All-head, All-tail}
use Rattle.std.proofs.lemmas.Nat.{from_le_bytes-to_le_bytes_8}
use Rattle.definitions.specs.Field.{modulus}
use Rattle.walk_definitions.specs.Messages.{heading, spelled, message, heading_fault, after_number, numbers_in, after_heading, taken}
use Rattle.shelf_io.specs.Talks.{at}
use Rattle.peer_exchange.specs.Laws.{ExpectedLaw, FrontLaw}

-- ---- bytes behind a message

-- what is read of eight bytes, and of those behind them
abbrev of_eight : ℕ → List ℕ → Result (List ℕ) ℕ → Result (List ℕ) ℕ
of_eight at first rest = if nat_le modulus (from_le_bytes w64 first) then Err at else after_number (from_le_bytes w64 first) rest

eight_more : (count at : ℕ) (bytes : List ℕ) → 8 ≤ length bytes
    → numbers_in (suc count) at bytes ≡ of_eight at (take 8 bytes) (numbers_in count (at + 8) (drop 8 bytes))
eight_more count at bytes enough =
    ap (λ b. if b then Err (at + length bytes) else of_eight at (take 8 bytes) (numbers_in count (at + 8) (drop 8 bytes))) (le-ltb (length bytes) 8 enough)

heading_front : (hs bytes : List ℕ) (n at : ℕ) → length hs ≤ n → heading_fault hs (take n bytes) at ≡ heading_fault hs bytes at
heading_front [] bytes n at enough = refl
heading_front (h ∷ hs) bytes zero at enough = absurd (omega arith)
heading_front (h ∷ hs) [] (suc n) at enough = refl
heading_front (h ∷ hs) (b ∷ bs) (suc n) at enough = ap (λ r. if h == b then r else Some at) (heading_front hs bs n (at + 1) (omega arith))

eight_behind : (n : ℕ) (bytes : List ℕ) → 8 ≤ n → drop 8 (take n bytes) ≡ take (n - 8) (drop 8 bytes)
eight_behind n bytes enough = let size : n ≡ 8 + (n - 8) = omega arith in ap (λ k. drop 8 (take k bytes)) size ∙ drop-take 8 (n - 8) bytes

numbers_longer : (count at n : ℕ) (bytes : List ℕ) → 8 * suc count ≤ n → (n < length bytes) ⊎ (length bytes ≤ n)
    → numbers_in count (at + 8) (take (n - 8) (drop 8 bytes)) ≡ numbers_in count (at + 8) (drop 8 bytes)
    → numbers_in (suc count) at (take n bytes) ≡ numbers_in (suc count) at bytes
numbers_longer count at n bytes enough (inl longer) rest =
    let size : length (take n bytes) ≡ n = length-take-le n bytes (omega arith) in
    eight_more count at (take n bytes) (omega arith)
    ∙ ap (λ bs. of_eight at bs (numbers_in count (at + 8) (drop 8 (take n bytes)))) (take-take 8 n bytes (omega arith))
    ∙ ap (λ bs. of_eight at (take 8 bytes) (numbers_in count (at + 8) bs)) (eight_behind n bytes (omega arith))
    ∙ ap (of_eight at (take 8 bytes)) rest
    ∙ sym (eight_more count at bytes (omega arith))
numbers_longer count at n bytes enough (inr whole) rest = ap (numbers_in (suc count) at) (take_all n bytes whole)

numbers_front : (count at n : ℕ) (bytes : List ℕ) → 8 * count ≤ n → numbers_in count at (take n bytes) ≡ numbers_in count at bytes
numbers_front zero at n bytes enough = refl
numbers_front (suc count) at n bytes enough =
    numbers_longer count at n bytes enough (cases_lt n (length bytes)) (numbers_front count (at + 8) (n - 8) (drop 8 bytes) (omega arith))

pub front_law : FrontLaw
unfolding taken
front_law kind level count bytes =
    ap (λ f. after_heading f (numbers_in count 7 (drop 7 (take (7 + 8 * count) bytes)))) (heading_front (heading kind level count) bytes (7 + 8 * count) 0 (omega arith))
    ∙ ap (λ bs. after_heading (heading_fault (heading kind level count) bytes 0) (numbers_in count 7 bs)) (drop-take 7 (8 * count) bytes)
    ∙ ap (after_heading (heading_fault (heading kind level count) bytes 0)) (numbers_front count 7 (8 * count) (drop 7 bytes) (omega arith))

-- ---- a message is read back

heading_fits : (hs rest : List ℕ) (at : ℕ) → heading_fault hs (hs ++ rest) at ≡ None
heading_fits [] rest at = refl
heading_fits (h ∷ hs) rest at =
    ap (λ b. if b then heading_fault hs (hs ++ rest) (at + 1) else Some at) (eq-eqb h h refl) ∙ heading_fits hs rest (at + 1)

numbers_back : (xs rest : List ℕ) (at : ℕ) → All (λ n. n < modulus) xs → numbers_in (length xs) at (spelled xs ++ rest) ≡ Ok xs
numbers_back [] rest at below = refl
numbers_back (x ∷ xs) rest at below =
    let first : x < modulus = All-head (λ n. n < modulus) x xs below in
    let bytes = to_le_bytes w64 x ++ (spelled xs ++ rest) in
    let back : from_le_bytes w64 (take 8 bytes) ≡ x = from_le_bytes-to_le_bytes_8 x (omega arith) in
    eight_more (length xs) at bytes (omega arith)
    ∙ ap (λ n. if nat_le modulus n then Err at else after_number n (numbers_in (length xs) (at + 8) (spelled xs ++ rest))) back
    ∙ ap (λ b. if b then Err at else after_number x (numbers_in (length xs) (at + 8) (spelled xs ++ rest))) (lt-leb modulus x first)
    ∙ ap (after_number x) (numbers_back xs rest (at + 8) (All-tail (λ n. n < modulus) x xs below))

message_back : (kind level : ℕ) (xs rest : List ℕ) → All (λ n. n < modulus) xs → taken kind level (length xs) (message kind level xs ++ rest) ≡ Ok xs
unfolding taken message
message_back kind level xs rest below =
    ap (λ bytes. after_heading (heading_fault (heading kind level (length xs)) bytes 0) (numbers_in (length xs) 7 (drop 7 bytes)))
    (append_assoc (heading kind level (length xs)) (spelled xs) rest)
    ∙ ap (λ f. after_heading f (numbers_in (length xs) 7 (spelled xs ++ rest))) (heading_fits (heading kind level (length xs)) (spelled xs ++ rest) 0)
    ∙ numbers_back xs rest 7 below

pub expected_law : ExpectedLaw
expected_law to kind level numbers rest before below waits =
    front_law kind level (length numbers) (at to before.waiting) ∙ ap (taken kind level (length numbers)) waits ∙ message_back kind level numbers rest below
