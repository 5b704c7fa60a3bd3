-- What holds of two shares that are the generated pair.
use Rattle.std.proofs.Common.{◌≡◌, ℕ, ◌+◌, Bool, List, [], ◌∷◌, length, refl, sym, ◌∙◌, subst, arith, length-append, zero, suc}
use Rattle.definitions.specs.Evaluation.{Share}
use Rattle.definitions.specs.Sketch.{Triple}
use Rattle.definitions.specs.Generation.{Path, LevelCoins, ClientCoins, path_after, words0, words1, share0, share1, coins_of_levels, level_coins, client_coins}
use Rattle.generation_laws.proofs.PointLaws.{point_law}
use Rattle.generation_laws.proofs.HonestLaws.{honest_law}
use Rattle.idpf_gen.specs.Pairs.{AddUpToThePointOf, PassesEachLevel}

-- ---- as many words as bits, and as many coins as levels

pub length-words0 : (path : Path) (bits : List Bool) (coins : List LevelCoins) → length coins ≡ length bits → length (words0 path bits coins) ≡ length bits
length-words0 path [] coins e = refl
length-words0 path (bit ∷ bits) [] e = absurd (omega arith)
length-words0 path (bit ∷ bits) (c ∷ coins) e =
    let rest = length-words0 (path_after path bit) bits coins (omega arith) in omega arith

pub length-words1 : (joint : ℕ → Triple) (level : ℕ) (path : Path) (bits : List Bool) (coins : List LevelCoins) → length coins ≡ length bits
    → length (words1 joint level path bits coins) ≡ length bits
length-words1 joint level path [] coins e = refl
length-words1 joint level path (bit ∷ bits) [] e = absurd (omega arith)
length-words1 joint level path (bit ∷ bits) (c ∷ coins) e =
    let rest = length-words1 joint (level + 1) (path_after path bit) bits coins (omega arith) in omega arith

length-coins_of_levels : (seed : List ℕ) (levels : ℕ) → length (coins_of_levels seed levels) ≡ levels
unfolding coins_of_levels
length-coins_of_levels seed zero = refl
length-coins_of_levels seed (suc level) =
    length-append (coins_of_levels seed level) (level_coins seed (suc level) ∷ [])
    ∙ (let before = length-coins_of_levels seed level in omega arith)

pub length-client_coins : (master : List ℕ) (line levels : ℕ) → length (client_coins master line levels).levels ≡ levels
unfolding client_coins
length-client_coins master line levels = length-coins_of_levels _ levels

-- ---- the two laws

pub point_of_pair : (id : List ℕ) (string : List Bool) (coins : ClientCoins) (s0 s1 : Share) → length coins.levels ≡ length string
    → s0 ≡ share0 id string coins → s1 ≡ share1 id string coins → AddUpToThePointOf string coins s0 s1
point_of_pair id string coins s0 s1 e is0 is1 =
    subst (λ s. AddUpToThePointOf string coins s s1) (sym is0)
    (subst (λ s. AddUpToThePointOf string coins (share0 id string coins) s) (sym is1)
    (λ q some fits. point_law id string coins q some fits (omega arith)))

pub honest_pair : (id : List ℕ) (string : List Bool) (coins : ClientCoins) (s0 s1 : Share) → length coins.levels ≡ length string
    → s0 ≡ share0 id string coins → s1 ≡ share1 id string coins → PassesEachLevel (length string) s0 s1
honest_pair id string coins s0 s1 e is0 is1 =
    subst (λ s. PassesEachLevel (length string) s s1) (sym is0)
    (subst (λ s. PassesEachLevel (length string) (share0 id string coins) s) (sym is1)
    (λ level some fits coin candidates are. honest_law id string coins level some fits (omega arith) coin candidates are))

pub ruleset pair_lengths = (length-words0, length-words1, length-client_coins)
