-- Values add up tile by tile, and a cache that is true changes none of them.
use Rattle.core_definitions.proofs.Plan.{true-le}
use Rattle.std.proofs.lemmas.List.{length-take, take_more, take_all}
use Rattle.definitions.proofs.EvaluationLaws.{descend-nil, descend-cons}
use Rattle.std.proofs.Common.{◌≡◌, ℕ, Bool, true, false, not, List, [], ◌∷◌, ◌++◌, refl, sym, ◌∙◌, ap, ◌-◌, ◌<◌, ◌≤◌, length, arith, ◌+◌}
use Rattle.std.specs.Prelude.{map, if◌then◌else◌, nat_eq, take, slice_index_or, nat_lt, nat_le, ◌&&◌}
use Rattle.std.proofs.lemmas.Bool.{eqb-true, and_parts, ltb-true}
use Rattle.definitions.specs.declared.Side.{Side}
use Rattle.definitions.specs.Field.{add, mul, total_by}
use Rattle.definitions.specs.Prefixes.{xor}
use Rattle.definitions.specs.Evaluation.{Node, LevelWord, Share, child, level_word, no_word, descend, root, node}
use Rattle.definitions.specs.Sketch.{squared, sums_added}
use Rattle.definitions.proofs.Ring.{var, num, ◌⊕◌, ring}
use Rattle.definitions.proofs.FieldLaws.{total_by-nil, total_by-cons, total_by-append}
use Rattle.walk_definitions.specs.Reports.{Report, held}
use Rattle.walk_definitions.specs.Heard.{paired}
use Rattle.core_definitions.specs.Tiles.{TilePlan, Placed, numbered, part_by, has_report, has_candidate, no_sums, sums_at, tile_sums, sums_of_tiles, total_at, tile_totals, totals_of_tiles}
use Rattle.core_definitions.specs.Phase.{CoreSettings, Kind, sketching, totalling, Phase, plan_of, coins_of, CacheEntry, same_bits, is_entry, plain_node, node_through, of_sketch, of_totals, values_added, tile_values, values_of_tiles, AreTrue, report_at, parent, has_step, from_parent, seen}
use Rattle.core_definitions.proofs.Sums.{total_by-same, same_sums}

pub map-same : {X Y : Type 0} (f g : X → Y) → ((x : X) → f x ≡ g x) → (xs : List X) → map f xs ≡ map g xs
map-same f g h [] = refl
map-same f g h (x ∷ xs) = let first = h x in let rest = map-same f g h xs in cc

pub paired-map : {X Y : Type 0} (a : Y → Y → Y) (f g : X → Y) (xs : List X) → paired a (map f xs) (map g xs) ≡ map (λ x. a (f x) (g x)) xs
paired-map a f g [] = refl
paired-map a f g (x ∷ xs) = ap (λ ys. a (f x) (g x) ∷ ys) (paired-map a f g xs)

total_by-push : {X : Type 0} (f : X → ℕ) (xs : List X) (x : X) → add (total_by f xs) (f x) ≡ total_by f (xs ++ x ∷ [])
total_by-push f xs x =
    ring (total_by f xs ∷ f x ∷ []) (var 0 ⊕ var 1) (var 0 ⊕ (var 1 ⊕ num 0)) refl refl refl
    ∙ ap (λ n. add (total_by f xs) (add (f x) n)) (sym (total_by-nil f))
    ∙ ap (add (total_by f xs)) (sym (total_by-cons f x []))
    ∙ sym (total_by-append f xs (x ∷ []))

-- ---- one tile more

module _ {R C : Type 0} (plan : TilePlan) (coins : R → ℕ → ℕ) (nodes : R → C → Node) (live : List R) (candidates : List C) where
  sums-push : (ks : List ℕ) (k : ℕ)
      → paired sums_added (sums_of_tiles plan coins nodes live candidates ks) (tile_sums plan coins nodes live candidates k)
      ≡ sums_of_tiles plan coins nodes live candidates (ks ++ k ∷ [])
  unfolding sums_of_tiles tile_sums
  sums-push ks k =
      paired-map sums_added _ _ (numbered 0 live)
      ∙ map-same _ _ (λ r. same_sums _ _ _ _ _ _
      (total_by-push (λ k. (sums_at plan coins nodes live candidates r k).x) ks k)
      (total_by-push (λ k. (sums_at plan coins nodes live candidates r k).y) ks k)
      (total_by-push (λ k. (sums_at plan coins nodes live candidates r k).z) ks k)) (numbered 0 live)

module _ {R C : Type 0} (plan : TilePlan) (nodes : R → C → Node) (live : List R) (candidates : List C) where
  totals-push : (ks : List ℕ) (k : ℕ)
      → paired add (totals_of_tiles plan nodes live candidates ks) (tile_totals plan nodes live candidates k)
      ≡ totals_of_tiles plan nodes live candidates (ks ++ k ∷ [])
  unfolding totals_of_tiles tile_totals
  totals-push ks k =
      paired-map add _ _ (numbered 0 candidates)
      ∙ map-same _ _ (λ q. total_by-push (total_at plan nodes live candidates q) ks k) (numbered 0 candidates)

pub values-push : (core : CoreSettings) (phase : Phase) (kind : Kind) (nodes : ℕ → List Bool → Node) (ks : List ℕ) (k : ℕ)
    → values_added (values_of_tiles core phase kind nodes ks) (tile_values core phase kind nodes k) ≡ values_of_tiles core phase kind nodes (ks ++ k ∷ [])
values-push core phase sketching nodes ks k =
    ap of_sketch (sums-push (plan_of core phase) (coins_of core phase) nodes phase.live phase.candidates ks k)
values-push core phase totalling nodes ks k =
    ap of_totals (totals-push (plan_of core phase) nodes phase.live phase.candidates ks k)

-- ---- equal nodes give equal values

if-same : {X : Type 0} (b : Bool) (x y z : X) → x ≡ y → (if b then x else z) ≡ (if b then y else z)
if-same b x y z e = ap (λ w. if b then w else z) e

part-same : {X : Type 0} (inside : ℕ → Bool) (f g : Placed X → ℕ) → ((p : Placed X) → f p ≡ g p) → (ps : List (Placed X))
    → part_by inside f ps ≡ part_by inside g ps
part-same inside f g h ps = total_by-same _ _ (λ p. if-same (inside p.place) (f p) (g p) 0 (h p)) ps

module _ {R C : Type 0} (plan : TilePlan) (coins : R → ℕ → ℕ) (nodes others : R → C → Node) (live : List R) (candidates : List C)
    (h : (r : R) (q : C) → nodes r q ≡ others r q) where
  sums-same : (k : ℕ) → tile_sums plan coins nodes live candidates k ≡ tile_sums plan coins others live candidates k
  unfolding tile_sums sums_at
  sums-same k = map-same _ _ (λ r. if-same (has_report plan k r.place) _ _ no_sums (same_sums _ _ _ _ _ _
      (part-same (has_candidate plan k) _ _ (λ q. ap (λ n. mul (coins r.item q.place) n.d) (h r.item q.item)) (numbered 0 candidates))
      (part-same (has_candidate plan k) _ _ (λ q. ap (λ n. mul (squared (coins r.item) q.place) n.d) (h r.item q.item)) (numbered 0 candidates))
      (part-same (has_candidate plan k) _ _ (λ q. ap (λ n. mul (coins r.item q.place) n.e) (h r.item q.item)) (numbered 0 candidates)))) (numbered 0 live)

  totals-same : (k : ℕ) → tile_totals plan nodes live candidates k ≡ tile_totals plan others live candidates k
  unfolding tile_totals total_at
  totals-same k = map-same _ _ (λ q. if-same (has_candidate plan k q.place) _ _ 0
      (part-same (has_report plan k) _ _ (λ r. ap (λ n. n.d) (h r.item q.item)) (numbered 0 live))) (numbered 0 candidates)

tile-same : (core : CoreSettings) (phase : Phase) (kind : Kind) (nodes others : ℕ → List Bool → Node) → ((i : ℕ) (q : List Bool) → nodes i q ≡ others i q)
    → (k : ℕ) → tile_values core phase kind nodes k ≡ tile_values core phase kind others k
tile-same core phase sketching nodes others h k =
    ap of_sketch (sums-same (plan_of core phase) (coins_of core phase) nodes others phase.live phase.candidates h k)
tile-same core phase totalling nodes others h k =
    ap of_totals (totals-same (plan_of core phase) (coins_of core phase) nodes others phase.live phase.candidates h k)

-- ---- a true cache

bits-is : (xs ys : List Bool) → same_bits xs ys ≡ true → xs ≡ ys
bits-is [] [] e = refl
bits-is [] (y ∷ ys) e = cc
bits-is (x ∷ xs) [] e = cc
bits-is (x ∷ xs) (y ∷ ys) e =
    let parts = and_parts (not (xor x y)) (same_bits xs ys) e in
    let first = bit x y parts.0 in let rest = bits-is xs ys parts.1 in cc
  where
    bit : (a b : Bool) → not (xor a b) ≡ true → a ≡ b
    bit true true e = refl
    bit true false e = cc
    bit false true e = cc
    bit false false e = refl

pub is-its-entry : (e : CacheEntry) (i : ℕ) (q : List Bool) → is_entry i q e ≡ true → (e.report ≡ i) × (e.prefix ≡ q)
is-its-entry e i q f =
    let parts = and_parts (nat_eq e.report i) (same_bits e.prefix q) f in (eqb-true e.report i parts.0, bits-is e.prefix q parts.1)

entry-is : (batch : List Report) (side : Side) (e : CacheEntry) (i : ℕ) (q : List Bool) → e.node ≡ plain_node batch side e.report e.prefix → is_entry i q e ≡ true
    → e.node ≡ plain_node batch side i q
entry-is batch side e i q h f =
    let parts = and_parts (nat_eq e.report i) (same_bits e.prefix q) f in
    h ∙ ap (λ j. plain_node batch side j e.prefix) (eqb-true e.report i parts.0)
    ∙ ap (plain_node batch side i) (bits-is e.prefix q parts.1)

-- the node one bit further is the child
descend-push : (words : List LevelWord) (side : Side) (n : Node) (q : List Bool) (b : Bool) → length q < length words
    → descend words side n (q ++ b ∷ []) ≡ child (slice_index_or words (length q) no_word) side (descend words side n q) b
descend-push [] side n q b p = absurd (omega (arith, p))
descend-push (w ∷ ws) side n [] b p =
    descend-cons w ws side n b [] ∙ descend-nil ws side (child w side n b)
    ∙ ap (λ m. child w side m b) (sym (descend-nil (w ∷ ws) side n))
descend-push (w ∷ ws) side n (c ∷ q) b p =
    descend-cons w ws side n c (q ++ b ∷ []) ∙ descend-push ws side (child w side n c) q b (omega (arith, p))
    ∙ ap (λ m. child (slice_index_or ws (length q) no_word) side m b) (sym (descend-cons w ws side n c q))

pub child-is : (share : Share) (side : Side) (q : List Bool) → has_step share q ≡ true
    → child (level_word share (length q)) side (node share side (parent q)) (slice_index_or q (length q - 1) false) ≡ node share side q
child-is share side q e =
    let parts = and_parts (nat_lt 0 (length q)) (nat_le (length q) (length share.levels)) e in
    let some : 0 < length q = ltb-true 0 (length q) parts.0 in
    let most : length q ≤ length share.levels = true-le (length q) (length share.levels) parts.1 in
    let long : length (parent q) ≡ length q - 1 = length-take (length q - 1) q ∙ omega arith in
    let joined : take (length q - 1 + 1) q ≡ parent q ++ slice_index_or q (length q - 1) false ∷ [] = take_more q (length q - 1) false (omega (arith, some)) in
    let all : length q - 1 + 1 ≡ length q = omega (arith, some) in
    let whole : q ≡ parent q ++ slice_index_or q (length q - 1) false ∷ [] = sym (ap (λ n. take n q) all ∙ take_all (length q) q (omega arith)) ∙ joined in
    sym (ap (node share side) whole
    ∙ descend-push share.levels side (root share side) (parent q) (slice_index_or q (length q - 1) false) (omega (arith, long, some, most))
    ∙ ap (λ n. child (slice_index_or share.levels n no_word) side (node share side (parent q)) (slice_index_or q (length q - 1) false)) long)

parent-true : (batch : List Report) (side : Side) (cache : List CacheEntry) → AreTrue batch side cache → (i : ℕ) (q : List Bool)
    → from_parent cache batch side i q ≡ plain_node batch side i q
parent-true batch side [] h i q = refl
parent-true batch side (e ∷ es) h i q =
    at (has_step share q && is_entry i (parent q) e) refl (parent-true batch side es h.1 i q)
  where
    share : Share
    share = held (report_at batch i) side

    at : (b : Bool) → (has_step share q && is_entry i (parent q) e) ≡ b → from_parent es batch side i q ≡ plain_node batch side i q
        → (if b then child (level_word share (length q)) side e.node (slice_index_or q (length q - 1) false) else from_parent es batch side i q)
        ≡ plain_node batch side i q
    at true f rest =
        let parts = and_parts (has_step share q) (is_entry i (parent q) e) f in
        ap (λ n. child (level_word share (length q)) side n (slice_index_or q (length q - 1) false)) (entry-is batch side e i (parent q) h.0 parts.1)
        ∙ child-is share side q parts.0
    at false f rest = rest

entry-true : (batch : List Report) (side : Side) (cache : List CacheEntry) → AreTrue batch side cache → (i : ℕ) (q : List Bool) (evaluated : Node)
    → evaluated ≡ plain_node batch side i q → seen cache i q evaluated ≡ plain_node batch side i q
entry-true batch side [] h i q evaluated g = g
entry-true batch side (e ∷ es) h i q evaluated g = at (is_entry i q e) refl (entry-true batch side es h.1 i q evaluated g)
  where
    at : (b : Bool) → is_entry i q e ≡ b → seen es i q evaluated ≡ plain_node batch side i q
        → (if b then e.node else seen es i q evaluated) ≡ plain_node batch side i q
    at true f rest = entry-is batch side e i q h.0 f
    at false f rest = rest

seen-true : (batch : List Report) (side : Side) (cache : List CacheEntry) → AreTrue batch side cache → (i : ℕ) (q : List Bool)
    → node_through cache batch side i q ≡ plain_node batch side i q
seen-true batch side cache h i q = entry-true batch side cache h i q (from_parent cache batch side i q) (parent-true batch side cache h i q)

-- what is evaluated through a true cache is what the evaluation gives
pub through-true : (core : CoreSettings) (phase : Phase) (side : Side) (cache : List CacheEntry) → AreTrue phase.batch side cache → (k : ℕ)
    → tile_values core phase phase.kind (node_through cache phase.batch side) k ≡ tile_values core phase phase.kind (plain_node phase.batch side) k
through-true core phase side cache h k = tile-same core phase phase.kind _ _ (seen-true phase.batch side cache h) k
