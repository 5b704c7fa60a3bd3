-- The bytes that are held, where the first of them were used.
use Rattle.std.proofs.Common.{◌≡◌, ℕ, ◌+◌, ◌-◌, ◌≤◌, List, Option, length, take, drop, sym, ap, ap₂, ◌∙◌, arith, length-drop}
use Rattle.std.specs.Prelude.{slice_range}
use Rattle.std.proofs.lemmas.List.{drop-take, drop-drop}
use Rattle.shelf_io.specs.Files.{Files, IfThere}
use Rattle.share_format.specs.Pieces.{Held, IsHeld}
use Rattle.share_format.proofs.ReaderLaws.{there-weaker}

rest_of : (n m : ℕ) (xs : List ℕ) → n ≤ m → take (m - n) (drop n xs) ≡ drop n (take m xs)
rest_of n m xs p =
    let whole : n + (m - n) ≡ m = omega arith in
    sym (drop-take n (m - n) xs) ∙ ap (λ k. drop n (take k xs)) whole

-- a range that begins later
pub range_rest : (xs : List ℕ) (used n filled : ℕ) → used + n ≤ filled → slice_range xs (used + n) filled ≡ drop n (slice_range xs used filled)
range_rest xs used n filled p =
    let left : filled - (used + n) ≡ filled - used - n = omega arith in
    ap (λ k. take k (drop (used + n) xs)) left
    ∙ ap (λ (ys : List ℕ). take (filled - used - n) ys) (sym (drop-drop n used xs))
    ∙ rest_of n (filled - used) (drop used xs) (omega arith)

-- what is left is of the file, where all was
used_held : (bytes : List ℕ) (old new : Held) (n : ℕ) → n ≤ length old.bytes → new.at ≡ old.at + n → new.bytes ≡ drop n old.bytes → IsHeld bytes old
    → IsHeld bytes new
used_held bytes old new n few place left held =
    let size : length new.bytes ≡ length old.bytes - n = ap length left ∙ length-drop n old.bytes in
    left ∙ ap (λ (xs : List ℕ). drop n xs) held ∙ sym (rest_of n (length old.bytes) (drop old.at bytes) few)
    ∙ ap (λ (xs : List ℕ). take (length old.bytes - n) xs) (drop-drop n old.at bytes)
    ∙ ap₂ (λ (k at : ℕ). take k (drop at bytes)) (sym size) (sym place)

-- the same on a shelf that tells
pub there_used : (told : Option Files) (name : List ℕ) (old new : Held) (n : ℕ) → n ≤ length old.bytes → new.at ≡ old.at + n → new.bytes ≡ drop n old.bytes
    → IfThere told name (λ bytes. IsHeld bytes old) → IfThere told name (λ bytes. IsHeld bytes new)
there_used told name old new n few place left held =
    there-weaker told name (λ bytes. IsHeld bytes old) (λ bytes. IsHeld bytes new) (λ bytes h. used_held bytes old new n few place left h) held
