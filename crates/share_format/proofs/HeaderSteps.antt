-- What the reader of a header cites.
use Rattle.share_format.proofs.FileLaws.{header_fault-front}
use Rattle.definitions.specs.declared.Side.TheVariants.{Zero, One}
use Rattle.std.proofs.Common.{◌≡◌, ℕ, ◌+◌, ◌<◌, ◌≤◌, true, false, List, [], ◌∷◌, length, get_or, take, rules, None, Some, refl, ◌∙◌, arith, ltb, sym, ap}
use Rattle.std.specs.Prelude.{IsTrue}
use Rattle.std.proofs.lemmas.Bool.{ltb-true, eqb-true}
use Rattle.std.proofs.lemmas.Bool.Decides.{nat_tests}
use Rattle.definitions.specs.declared.Side.{Side}
use Rattle.definitions.specs.Sides.{side_number}
use Rattle.share_format.specs.Spelling.{header}
use Rattle.share_format.specs.ShareFile.{first_failing, is_width, may_stand, is_header_byte, header_fault}
use Rattle.share_format.proofs.FailingLaws.{first_failing-zero, first_failing-more, first_failing-found, first_failing-passed, first_failing-same, both_pass}

-- a byte that is there and may stand, after others that do
pub header_passes : (side : Side) (bytes : List ℕ) (at : ℕ) → first_failing (is_header_byte side bytes) at ≡ None → at < length bytes
    → may_stand side at (get_or bytes at 0) ≡ true → first_failing (is_header_byte side bytes) (at + 1) ≡ None
header_passes side bytes at none inside good =
    let there : ltb at (length bytes) ≡ true = grind (arith, nat_tests) in
    first_failing-more (is_header_byte side bytes) at none (rw (there, good) refl)

-- the first byte that is missing
pub byte_missing : (side : Side) (bytes : List ℕ) (at : ℕ) → at < 8 → first_failing (is_header_byte side bytes) at ≡ None → length bytes ≤ at
    → header_fault side bytes ≡ Some at
byte_missing side bytes at p none outside =
    let missing : ltb at (length bytes) ≡ false = grind (arith, nat_tests) in
    first_failing-found (is_header_byte side bytes) 8 at p none (rw missing refl)

-- the first byte that is wrong
pub byte_wrong : (side : Side) (bytes : List ℕ) (at : ℕ) → at < 8 → first_failing (is_header_byte side bytes) at ≡ None → at < length bytes
    → may_stand side at (get_or bytes at 0) ≡ false → header_fault side bytes ≡ Some at
byte_wrong side bytes at p none inside wrong =
    let there : ltb at (length bytes) ≡ true = grind (arith, nat_tests) in
    first_failing-found (is_header_byte side bytes) 8 at p none (rw (there, wrong) refl)

-- a byte of a right header
stands : (side : Side) (bytes : List ℕ) (at : ℕ) → is_header_byte side bytes at ≡ true → (at < length bytes) × (may_stand side at (get_or bytes at 0) ≡ true)
stands side bytes at e = let parts = both_pass _ _ e in (ltb-true at (length bytes) parts.0, parts.1)

-- eight bytes at the front
eight : (xs : List ℕ) → 8 ≤ length xs
    → take 8 xs ≡ get_or xs 0 0 ∷ get_or xs 1 0 ∷ get_or xs 2 0 ∷ get_or xs 3 0 ∷ get_or xs 4 0 ∷ get_or xs 5 0 ∷ get_or xs 6 0 ∷ get_or xs 7 0 ∷ []
eight [] p = absurd (omega arith)
eight (a ∷ []) p = absurd (omega arith)
eight (a ∷ b ∷ []) p = absurd (omega arith)
eight (a ∷ b ∷ c ∷ []) p = absurd (omega arith)
eight (a ∷ b ∷ c ∷ d ∷ []) p = absurd (omega arith)
eight (a ∷ b ∷ c ∷ d ∷ e ∷ []) p = absurd (omega arith)
eight (a ∷ b ∷ c ∷ d ∷ e ∷ f ∷ []) p = absurd (omega arith)
eight (a ∷ b ∷ c ∷ d ∷ e ∷ f ∷ g ∷ []) p = absurd (omega arith)
eight (a ∷ b ∷ c ∷ d ∷ e ∷ f ∷ g ∷ h ∷ xs) p = refl

eight_same : (a b c d e f g h a' b' c' d' e' f' g' h' : ℕ) → a ≡ a' → b ≡ b' → c ≡ c' → d ≡ d' → e ≡ e' → f ≡ f' → g ≡ g' → h ≡ h'
    → a ∷ b ∷ c ∷ d ∷ e ∷ f ∷ g ∷ h ∷ [] ≡ a' ∷ b' ∷ c' ∷ d' ∷ e' ∷ f' ∷ g' ∷ h' ∷ []
eight_same a b c d e f g h a' b' c' d' e' f' g' h' i j k l m n o p = cc

-- the bytes of a header without a fault
pub right_bytes : (side : Side) (bytes : List ℕ) → header_fault side bytes ≡ None → take 8 bytes ≡ header side (get_or bytes 6 0)
right_bytes side bytes none =
    let at_7 = first_failing-passed (is_header_byte side bytes) 7 none in
    let at_6 = first_failing-passed (is_header_byte side bytes) 6 at_7.0 in
    let at_5 = first_failing-passed (is_header_byte side bytes) 5 at_6.0 in
    let at_4 = first_failing-passed (is_header_byte side bytes) 4 at_5.0 in
    let at_3 = first_failing-passed (is_header_byte side bytes) 3 at_4.0 in
    let at_2 = first_failing-passed (is_header_byte side bytes) 2 at_3.0 in
    let at_1 = first_failing-passed (is_header_byte side bytes) 1 at_2.0 in
    let at_0 = first_failing-passed (is_header_byte side bytes) 0 at_1.0 in
    let last = stands side bytes 7 at_7.1 in
    let long : 7 < length bytes = last.0 in
    eight bytes (omega arith)
    ∙ eight_same _ _ _ _ _ _ _ _ 0x50 0x50 0x4c 0x52 1 (side_number side) (get_or bytes 6 0) 0
    (eqb-true _ _ (stands side bytes 0 at_0.1).1) (eqb-true _ _ (stands side bytes 1 at_1.1).1) (eqb-true _ _ (stands side bytes 2 at_2.1).1)
    (eqb-true _ _ (stands side bytes 3 at_3.1).1) (eqb-true _ _ (stands side bytes 4 at_4.1).1) (eqb-true _ _ (stands side bytes 5 at_5.1).1)
    refl (eqb-true _ _ last.1)

-- the width of a header without a fault
pub right_width : (side : Side) (bytes : List ℕ) → header_fault side bytes ≡ None → IsTrue (is_width (get_or bytes 6 0))
right_width side bytes none =
    let at_7 = first_failing-passed (is_header_byte side bytes) 7 none in
    let at_6 = first_failing-passed (is_header_byte side bytes) 6 at_7.0 in
    search (rules, (stands side bytes 6 at_6.1).1)

-- the length of bytes with a header without a fault
pub right_length : (side : Side) (bytes : List ℕ) → header_fault side bytes ≡ None → 8 ≤ length bytes
right_length side bytes none = (stands side bytes 7 (first_failing-passed (is_header_byte side bytes) 7 none).1).0

-- a header is without a fault
header-right : (side : Side) (width : ℕ) → IsTrue (is_width width) → header_fault side (header side width) ≡ None
unfolding first_failing
header-right Zero width good = rw good refl
header-right One width good = rw good refl

pub header_law : (side : Side) (width : ℕ) (bytes : List ℕ) → IsTrue (is_width width) → take 8 bytes ≡ header side width → header_fault side bytes ≡ None
header_law side width bytes good front = sym (header_fault-front side bytes) ∙ ap (header_fault side) front ∙ header-right side width good

pub ruleset header_steps = (first_failing-zero, header_passes, byte_missing, byte_wrong, right_bytes, right_width)
