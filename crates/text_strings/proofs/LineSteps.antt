-- The lines of bytes, one by one: what the first is, and what the rest say of the whole.
use Rattle.std.proofs.Common.{◌≡◌, ◌≢◌, ◌<◌, ◌≤◌, ◌∙◌, ◌++◌, ◌-◌, ℕ, zero, suc, List, [], ◌∷◌, length, get_or, take, drop, replicate, refl, sym, ap, arith}
use Rattle.std.proofs.lemmas.List.{take-replicate}
use Rattle.std.proofs.lemmas.Bool.{eq-eqb, ne_eqb}
use Rattle.text_strings.specs.Lines.{line_feed, lines_of, padded}

-- a line that a line feed ends
pub lines_of-ended : (bytes : List ℕ) (end : ℕ) → end < length bytes → ((k : ℕ) → k < end → get_or bytes k 0 ≢ line_feed) → get_or bytes end 0 ≡ line_feed
    → lines_of bytes ≡ take end bytes ∷ lines_of (drop (suc end) bytes)
unfolding lines_of
lines_of-ended [] end h before found = absurd (omega arith)
lines_of-ended (byte ∷ bytes) zero h before found = rw (eq-eqb byte line_feed found) refl
lines_of-ended (byte ∷ bytes) (suc end) h before found =
    rw (ne_eqb byte line_feed (before 0 (omega arith)), lines_of-ended bytes end (omega arith) (λ k l. before (suc k) (omega arith)) found) refl

-- a last line without a line feed
pub lines_of-last : (bytes : List ℕ) → 0 < length bytes → ((k : ℕ) → k < length bytes → get_or bytes k 0 ≢ line_feed) → lines_of bytes ≡ bytes ∷ []
unfolding lines_of
lines_of-last [] h none = absurd (omega arith)
lines_of-last (byte ∷ []) h none = rw (ne_eqb byte line_feed (none 0 (omega arith))) refl
lines_of-last (byte ∷ next ∷ bytes) h none =
    rw (ne_eqb byte line_feed (none 0 (omega arith)), lines_of-last (next ∷ bytes) (omega arith) (λ k l. none (suc k) (omega arith))) refl

-- no byte, no line
pub lines_of-nil : (bytes : List ℕ) → length bytes ≡ 0 → lines_of bytes ≡ []
unfolding lines_of
lines_of-nil [] h = refl
lines_of-nil (byte ∷ bytes) h = absurd (omega arith)

-- the steps of a loop over the lines
pub ruleset line_steps = lines_of-nil

-- the first bytes of an array of zeros that a line was copied to the front of
pub take-padded : (most width : ℕ) (line : List ℕ) → length line ≤ width → width ≤ most
    → take width (line ++ drop (length line) (replicate most 0)) ≡ padded width line
take-padded most width [] short fits =
    let all : width - 0 ≡ width = omega arith in take-replicate {X = ℕ} width most 0 fits ∙ ap (λ n. replicate {A = ℕ} n 0) (sym all)
take-padded most zero (byte ∷ line) short fits = absurd (omega arith)
take-padded zero (suc width) (byte ∷ line) short fits = absurd (omega arith)
take-padded (suc most) (suc width) (byte ∷ line) short fits =
    let same : suc width - suc (length line) ≡ width - length line = omega arith in
    rw same (ap (λ bytes. byte ∷ bytes) (take-padded most width line (omega arith) (omega arith)))
