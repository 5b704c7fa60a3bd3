-- The workers of a side, and the lowest tile that is not posted.
use Rattle.std.proofs.Common.{◌≡◌, ℕ, zero, suc, ◌+◌, ◌-◌, ◌<◌, ◌≤◌, false, cond, List, [], ◌∷◌, Some, replicate, refl, sym, ◌∙◌, ap, arith}
use Rattle.std.specs.Prelude.{if◌then◌else◌, nat_eq}
use Rattle.std.proofs.lemmas.Bool.{eq-eqb}
use Rattle.std.proofs.lemmas.List.Sums.{sum_by-cons}
use Rattle.core_definitions.specs.declared.hand.Hand.TheVariants.{Free}
use Rattle.core_definitions.specs.Phase.{Posting, posted_count, unposted}
use Rattle.core_definitions.specs.System.{hands_of}
use Rattle.phase_state.specs.Logs.{posts, tiles_in}

pub all-free : (n : ℕ) → replicate n Free ≡ hands_of n
all-free zero = refl
all-free (suc n) = ap (λ hs. Free ∷ hs) (all-free n)

-- what the making of hands cites
pub ruleset fresh_hands = (all-free)

-- ---- the log's count of a tile, in both words

pub posts-is : (k : ℕ) (log : List Posting) → posts k log ≡ posted_count k log
posts-is k [] = refl
posts-is k (p ∷ ps) =
    sum_by-cons (λ n. cond (nat_eq n k) 1 0) p.tile (tiles_in ps)
    ∙ ap (λ n. cond (nat_eq p.tile k) 1 0 + n) (posts-is k ps)
    ∙ sym (sum_by-cons (λ e. cond (nat_eq e.tile k) 1 0) p ps)

count-zero : (n : ℕ) → n ≤ 1 → (n ≡ 1 → ⊥) → n ≡ 0
count-zero zero p q = refl
count-zero (suc zero) p q = absurd (q refl)
count-zero (suc (suc n)) p q = absurd (omega (arith, p))

test-one : (n : ℕ) → n ≡ 1 → nat_eq n 0 ≡ false
test-one n e = ap (λ m. nat_eq m 0) e

pub unposted-here : (log : List Posting) (k count : ℕ) → k < count → posted_count k log ≤ 1 → (posts k log ≡ 1 → ⊥)
    → Some k ≡ unposted log k (count - k)
unposted-here log k count below most other =
    let more : count - k ≡ suc (count - (k + 1)) = omega (arith, below) in
    let none = count-zero (posted_count k log) most (λ e. other (posts-is k log ∙ e)) in
    sym (ap (unposted log k) more ∙ ap (λ b. if b then Some k else unposted log (k + 1) (count - (k + 1))) (eq-eqb _ _ none))

pub unposted-next : (log : List Posting) (k count : ℕ) → k < count → posts k log ≡ 1
    → unposted log (k + 1) (count - (k + 1)) ≡ unposted log k (count - k)
unposted-next log k count below one =
    let more : count - k ≡ suc (count - (k + 1)) = omega (arith, below) in
    sym (ap (unposted log k) more
    ∙ ap (λ b. if b then Some k else unposted log (k + 1) (count - (k + 1))) (test-one (posted_count k log) (sym (posts-is k log) ∙ one)))
