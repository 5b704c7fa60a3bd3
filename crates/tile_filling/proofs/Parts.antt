-- What a report's nodes add to the parts of a tile.
use Rattle.std.proofs.Common.{◌≡◌, ℕ, ◌+◌, ◌<◌, Bool, List, [], ◌∷◌, length, get_or, map, take, refl, sym, ◌∙◌, ap, ap₂}
use Rattle.std.proofs.lemmas.Simd.{map-map}
use Rattle.definitions.specs.declared.Side.{Side}
use Rattle.definitions.specs.Evaluation.{Share, Node, node}
use Rattle.definitions.specs.Field.{add}
use Rattle.definitions.specs.Sketch.{coin_key, coin_at, partial_sums_from}
use Rattle.definitions.proofs.FieldLaws.{total_by-nil}
use Rattle.walk_definitions.specs.Heard.{paired}
use Rattle.core_definitions.proofs.Values.{map-same}
use Rattle.phase_state.proofs.Steps.{total_step}
use Rattle.tile_filling.specs.Blocks.{sums_over, total_over}

-- the sums of a share's nodes are those over its candidates
pub node_sums : (side : Side) (verify : List ℕ) (level first : ℕ) (qs : List (List Bool)) (share : Share) (key : List ℕ) (nodes : List Node)
    → key ≡ coin_key verify share.id → nodes ≡ map (node share side) qs
    → partial_sums_from (coin_at key level) first (map (λ (n : Node). n.d) nodes) (map (λ (n : Node). n.e) nodes) ≡ sums_over side verify level first qs share
node_sums side verify level first qs share key nodes same is =
    let d : map (λ (n : Node). n.d) nodes ≡ map (λ q. (node share side q).d) qs = ap (map (λ (n : Node). n.d)) is ∙ map-map (λ (n : Node). n.d) (node share side) qs in
    let e : map (λ (n : Node). n.e) nodes ≡ map (λ q. (node share side q).e) qs = ap (map (λ (n : Node). n.e)) is ∙ map-map (λ (n : Node). n.e) (node share side) qs in
    ap (λ k. partial_sums_from (coin_at k level) first (map (λ (n : Node). n.d) nodes) (map (λ (n : Node). n.e) nodes)) same
    ∙ ap₂ (λ ds es. partial_sums_from (coin_at (coin_key verify share.id) level) first ds es) d e

paired_maps : {X : Type 0} (f g h : X → ℕ) → ((x : X) → add (f x) (g x) ≡ h x) → (xs : List X) → paired add (map f xs) (map g xs) ≡ map h xs
paired_maps f g h same [] = refl
paired_maps f g h same (x ∷ xs) = ap₂ (λ y ys. y ∷ ys) (same x) (paired_maps f g h same xs)

-- no report yet: all totals are 0
pub no_totals : (side : Side) (shares : List Share) (qs : List (List Bool)) → map (λ (q : List Bool). 0) qs ≡ map (total_over side shares []) qs
no_totals side shares qs = map-same (λ q. 0) (total_over side shares []) (λ q. sym (total_by-nil (λ (s : Share). (node s side q).d))) qs

-- one report more was added to the totals
pub more_totals : (side : Side) (shares : List Share) (live : List ℕ) (i k : ℕ) (share : Share) → i < length live → k ≡ get_or live i k → k < length shares → share ≡ get_or shares k share
    → (qs : List (List Bool)) (old new : List ℕ) (nodes : List Node) → nodes ≡ map (node share side) qs
    → old ≡ map (total_over side shares (take i live)) qs → new ≡ paired add old (map (λ (n : Node). n.d) nodes)
    → new ≡ map (total_over side shares (take (i + 1) live)) qs
more_totals side shares live i k share below at inside is qs old new nodes made before next =
    next ∙ ap₂ (λ xs ys. paired add xs ys) before (ap (map (λ (n : Node). n.d)) made ∙ map-map (λ (n : Node). n.d) (node share side) qs)
    ∙ paired_maps (total_over side shares (take i live)) (λ q. (node share side q).d) (total_over side shares (take (i + 1) live))
    (λ q. total_step shares live i k share below at inside is (λ s. (node s side q).d) _ _ _ refl refl refl) qs
