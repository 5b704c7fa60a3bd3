-- The test of two shares is true exactly where they are equal.
use Rattle.std.proofs.Common.{rules, ◌≡◌, ℕ, List}
use Rattle.std.specs.Bool.{Decides}
use Rattle.std.specs.Cmp.Lexicographic.{pointwise, bytes_decides, pointwise_decides}
use Rattle.definitions.specs.Evaluation.{LevelWord, Share}
use Rattle.definitions.specs.Prefixes.{xor}
use Rattle.std.specs.Prelude.{Bool, true, false, not, refl}
use Rattle.walk_definitions.specs.Reports.{same_bytes, same_word, same_share}

pub bytes_decide : (xs ys : List ℕ) → Decides (same_bytes xs ys) (xs ≡ ys)
bytes_decide = bytes_decides

bits_decide : (a b : Bool) → Decides (not (xor a b)) (a ≡ b)
bits_decide true true = (λ _. refl, λ _. refl)
bits_decide true false = (λ e. cc, λ e. cc)
bits_decide false true = (λ e. cc, λ e. cc)
bits_decide false false = (λ _. refl, λ _. refl)

words_decide : (v w : LevelWord) → Decides (same_word v w) (v ≡ w)
words_decide v w = search (rules, bits_decide, bytes_decide)

levels_decide : (vs ws : List LevelWord) → Decides (pointwise same_word vs ws) (vs ≡ ws)
levels_decide = pointwise_decides words_decide

pub shares_decide : (s t : Share) → Decides (same_share s t) (s ≡ t)
shares_decide s t = search (rules, levels_decide, bytes_decide)

-- the test is false where they differ
pub differ : (s t : Share) → (s ≡ t → ⊥) → same_share s t ≡ false
differ s t apart = at (same_share s t) (shares_decide s t)
  where
    at : (b : Bool) → Decides b (s ≡ t) → b ≡ false
    at true d = absurd (apart (d.0 refl))
    at false d = refl
