-- Reading a message in front of other bytes.
use Rattle.std.proofs.Common.{◌≡◌, ℕ, zero, suc, ◌+◌, ◌*◌, ◌≤◌, Bool, true, false, List, [], ◌∷◌, ◌++◌, None, Some, Ok, Err, length, take, drop, refl, sym, ◌∙◌, ap, arith}
use mathlib.Core.Logic.{inl, inr}
use Rattle.std.specs.Prelude.{Option, Result, if◌then◌else◌, ◌==◌, nat_le}
use Rattle.std.specs.Int.{w64, from_le_bytes}
use Rattle.std.proofs.lemmas.Bool.{lt-ltb, le-ltb, cases_lt}
use Rattle.std.proofs.lemmas.List.{take_all, take-append-le, length-drop}
use Rattle.std.proofs.Math.Seq.{drop-append-add}
use Rattle.definitions.specs.Field.{modulus}
use Rattle.walk_definitions.specs.Messages.{heading, message, heading_fault, after_number, numbers_in, after_heading, taken, behind}
use Rattle.walk_definitions.proofs.TrueLink.{length-spelled}
use Rattle.peer_exchange.specs.Exchanges.{message_length}
use Rattle.peer_exchange.proofs.Fronts.{front_law}

heading_long : (hs bytes : List ℕ) (at : ℕ) → heading_fault hs bytes at ≡ None → length hs ≤ length bytes
heading_long [] bytes at e = omega arith
heading_long (h ∷ hs) [] at e = cc
heading_long (h ∷ hs) (b ∷ bs) at e = step (h == b) (heading_long hs bs (at + 1)) e
  where
    step : (t : Bool) → (heading_fault hs bs (at + 1) ≡ None → length hs ≤ length bs)
        → (if t then heading_fault hs bs (at + 1) else Some at) ≡ None → length (h ∷ hs) ≤ length (b ∷ bs)
    step true rest e = let r = rest e in omega arith
    step false rest e = cc

after_number-ok : (n : ℕ) (read : Result (List ℕ) ℕ) (ns : List ℕ) → after_number n read ≡ Ok ns → (ms : List ℕ) × (read ≡ Ok ms)
after_number-ok n (Ok ms) ns e = (ms, refl)
after_number-ok n (Err at) ns e = cc

numbers_long : (count at : ℕ) (bytes ns : List ℕ) → numbers_in count at bytes ≡ Ok ns → 8 * count ≤ length bytes
numbers_long zero at bytes ns e = omega arith
numbers_long (suc count) at bytes ns e = elim (cases_lt (length bytes) 8) [
  | inl short ↦ cc (ap (λ b. if b then Err (at + length bytes) else read) (lt-ltb (length bytes) 8 short), e)
  | inr enough ↦
      step (nat_le modulus (from_le_bytes w64 (take 8 bytes))) enough (λ ms. numbers_long count (at + 8) (drop 8 bytes) ms)
      (sym (ap (λ b. if b then Err (at + length bytes) else read) (le-ltb (length bytes) 8 enough)) ∙ e)
]
  where
    read : Result (List ℕ) ℕ
    read = if nat_le modulus (from_le_bytes w64 (take 8 bytes)) then Err at
        else after_number (from_le_bytes w64 (take 8 bytes)) (numbers_in count (at + 8) (drop 8 bytes))

    step : (t : Bool) → 8 ≤ length bytes → ((ms : List ℕ) → numbers_in count (at + 8) (drop 8 bytes) ≡ Ok ms → 8 * count ≤ length (drop 8 bytes))
        → (if t then Err at else after_number (from_le_bytes w64 (take 8 bytes)) (numbers_in count (at + 8) (drop 8 bytes))) ≡ Ok ns → 8 * suc count ≤ length bytes
    step true enough rest e = cc
    step false enough rest e =
        let some = after_number-ok (from_le_bytes w64 (take 8 bytes)) (numbers_in count (at + 8) (drop 8 bytes)) ns e in
        omega (arith, rest some.0 some.1, length-drop 8 bytes)

both_ok : (fault : Option ℕ) (read : Result (List ℕ) ℕ) (ns : List ℕ) → after_heading fault read ≡ Ok ns → (fault ≡ None) × (read ≡ Ok ns)
both_ok None read ns e = (refl, e)
both_ok (Some at) read ns e = cc

-- bytes that are read as a message are as many as it has
taken_long : (kind level count : ℕ) (bytes ns : List ℕ) → taken kind level count bytes ≡ Ok ns → message_length count ≤ length bytes
unfolding taken
taken_long kind level count bytes ns e =
    let parts = both_ok (heading_fault (heading kind level count) bytes 0) (numbers_in count 7 (drop 7 bytes)) ns e in
    let head : 7 ≤ length bytes = let h = heading_long (heading kind level count) bytes 0 parts.0 in omega arith in
    omega (arith, head, numbers_long count 7 (drop 7 bytes) ns parts.1, length-drop 7 bytes)

-- what is read of a whole message, and what is left, where more bytes follow
pub taken_before : (kind level count : ℕ) (bytes rest ns : List ℕ) → taken kind level count bytes ≡ Ok ns → length bytes ≤ message_length count
    → (taken kind level count (bytes ++ rest) ≡ Ok ns) × (behind count (bytes ++ rest) ≡ rest)
unfolding behind
taken_before kind level count bytes rest ns e most =
    let least = taken_long kind level count bytes ns e in
    let same : message_length count ≡ length bytes = omega arith in
    let same_more : 7 + 8 * count ≡ length bytes + 0 = omega (arith, same) in
    let front : take (message_length count) (bytes ++ rest) ≡ bytes =
    take-append-le (message_length count) bytes rest (omega (arith, same)) ∙ take_all (message_length count) bytes (omega (arith, same)) in (
      sym (front_law kind level count (bytes ++ rest)) ∙ ap (taken kind level count) front ∙ e,
      ap (λ n. drop n (bytes ++ rest)) same_more ∙ drop-append-add bytes rest 0,
    )

pub length-message : (kind level : ℕ) (ns : List ℕ) → length (message kind level ns) ≡ message_length (length ns)
unfolding message
length-message kind level ns = let rest = length-spelled ns in omega arith
