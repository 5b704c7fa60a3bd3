-- The words of one more level, and of none.
use Rattle.std.proofs.Common.{◌≡◌, ℕ, ◌+◌, ◌<◌, ◌≤◌, Bool, false, List, [], ◌∷◌, ◌++◌, Some, length, drop, sym, ◌∙◌, ap, append_assoc, append-nil}
use Rattle.std.proofs.lemmas.List.{drop_all, drop_more}
use Rattle.std.proofs.lemmas.Option.{get_or_from_slice_get}
use Rattle.std.specs.Prelude.{slice_get, slice_index_or}
use Rattle.definitions.specs.Evaluation.{LevelWord}
use Rattle.definitions.specs.Sketch.{Triple}
use Rattle.definitions.specs.Generation.{Path, LevelCoins, path_after, words0, words1}
use Rattle.generation_laws.specs.Points.{no_coins}
use Rattle.idpf_gen.specs.LevelWords.{word0, word1}

split : {Y : Type 0} (f : List Bool → List LevelCoins → Y) (bits : List Bool) (coins : List LevelCoins) (k : ℕ) (bit : Bool) (c : LevelCoins)
    → k < length bits → k < length coins → slice_get bits k ≡ Some bit → c ≡ slice_index_or coins k no_coins
    → f (drop k bits) (drop k coins) ≡ f (bit ∷ drop (k + 1) bits) (c ∷ drop (k + 1) coins)
split f bits coins k bit c p q e g =
    ap (λ bs. f bs (drop k coins)) (drop_more bits k false p)
    ∙ ap (λ cs. f (slice_index_or bits k false ∷ drop (k + 1) bits) cs) (drop_more coins k no_coins q)
    ∙ ap (λ b. f (b ∷ drop (k + 1) bits) (slice_index_or coins k no_coins ∷ drop (k + 1) coins)) (get_or_from_slice_get bits k bit false e)
    ∙ ap (λ d. f (bit ∷ drop (k + 1) bits) (d ∷ drop (k + 1) coins)) (sym g)

pub words0-more : (done whole more : List LevelWord) (path after : Path) (bits : List Bool) (coins : List LevelCoins) (k : ℕ) (bit : Bool)
    (c : LevelCoins) (word : LevelWord)
    → k < length bits → k < length coins → slice_get bits k ≡ Some bit → c ≡ slice_index_or coins k no_coins
    → word ≡ word0 path bit c → after ≡ path_after path bit → more ≡ done ++ word ∷ []
    → whole ≡ done ++ words0 path (drop k bits) (drop k coins)
    → whole ≡ more ++ words0 after (drop (k + 1) bits) (drop (k + 1) coins)
words0-more done whole more path after bits coins k bit c word p q e g is to pushed h =
    h ∙ ap (λ ws. done ++ ws) (split (words0 path) bits coins k bit c p q e g)
    ∙ ap (λ w. done ++ w ∷ words0 (path_after path bit) (drop (k + 1) bits) (drop (k + 1) coins)) (sym is)
    ∙ ap (λ next. done ++ word ∷ words0 next (drop (k + 1) bits) (drop (k + 1) coins)) (sym to)
    ∙ sym (append_assoc done (word ∷ []) (words0 after (drop (k + 1) bits) (drop (k + 1) coins)))
    ∙ ap (λ ws. ws ++ words0 after (drop (k + 1) bits) (drop (k + 1) coins)) (sym pushed)

pub words1-more : (joint : ℕ → Triple) (done whole more : List LevelWord) (path after : Path) (bits : List Bool) (coins : List LevelCoins) (k : ℕ) (bit : Bool)
    (c : LevelCoins) (word : LevelWord)
    → k < length bits → k < length coins → slice_get bits k ≡ Some bit → c ≡ slice_index_or coins k no_coins
    → word ≡ word1 (joint (k + 1)) path bit c → after ≡ path_after path bit → more ≡ done ++ word ∷ []
    → whole ≡ done ++ words1 joint (k + 1) path (drop k bits) (drop k coins)
    → whole ≡ more ++ words1 joint (k + 1 + 1) after (drop (k + 1) bits) (drop (k + 1) coins)
words1-more joint done whole more path after bits coins k bit c word p q e g is to pushed h =
    h ∙ ap (λ ws. done ++ ws) (split (words1 joint (k + 1) path) bits coins k bit c p q e g)
    ∙ ap (λ w. done ++ w ∷ words1 joint (k + 1 + 1) (path_after path bit) (drop (k + 1) bits) (drop (k + 1) coins)) (sym is)
    ∙ ap (λ next. done ++ word ∷ words1 joint (k + 1 + 1) next (drop (k + 1) bits) (drop (k + 1) coins)) (sym to)
    ∙ sym (append_assoc done (word ∷ []) (words1 joint (k + 1 + 1) after (drop (k + 1) bits) (drop (k + 1) coins)))
    ∙ ap (λ ws. ws ++ words1 joint (k + 1 + 1) after (drop (k + 1) bits) (drop (k + 1) coins)) (sym pushed)

pub words0-end : (done whole : List LevelWord) (path : Path) (bits : List Bool) (coins : List LevelCoins) (k : ℕ) → length bits ≤ k
    → whole ≡ done ++ words0 path (drop k bits) (drop k coins) → done ≡ whole
words0-end done whole path bits coins k p h =
    sym (h ∙ ap (λ bs. done ++ words0 path bs (drop k coins)) (drop_all k bits p) ∙ append-nil done)

pub words1-end : (joint : ℕ → Triple) (level : ℕ) (done whole : List LevelWord) (path : Path) (bits : List Bool) (coins : List LevelCoins) (k : ℕ) → length bits ≤ k
    → whole ≡ done ++ words1 joint level path (drop k bits) (drop k coins) → done ≡ whole
words1-end joint level done whole path bits coins k p h =
    sym (h ∙ ap (λ bs. done ++ words1 joint level path bs (drop k coins)) (drop_all k bits p) ∙ append-nil done)
