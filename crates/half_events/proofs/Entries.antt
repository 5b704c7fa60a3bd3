-- What a cache has is what the evaluation gives.
use Rattle.std.proofs.Common.{◌≡◌, ℕ, zero, suc, ◌<◌, ◌≤◌, Bool, true, false, not, List, [], ◌∷◌, Some, length, refl, sym, ◌∙◌, ap, arith}
use Rattle.std.specs.Prelude.{if◌then◌else◌, ◌&&◌, ◌-◌, is_none, nat_lt, nat_le, slice_get, slice_index_or}
use Rattle.std.proofs.lemmas.Bool.{lt-ltb, and_from}
use Rattle.std.specs.List.{list_all}
use Rattle.definitions.specs.declared.Side.{Side}
use Rattle.definitions.specs.Evaluation.{Share, Node, node, child, level_word}
use Rattle.core_definitions.specs.Phase.{CacheEntry, is_entry, parent}
use Rattle.phase_state.specs.Sums.{share_at}
use Rattle.half_events.specs.Caches.{found_in, may_fill, IsTrueCache}
use Rattle.core_definitions.proofs.Plan.{le-true}
use Rattle.core_definitions.proofs.Values.{is-its-entry, child-is}

-- an entry that is found is true
pub found-true : (shares : List Share) (side : Side) (cache : List CacheEntry) (i : ℕ) (q : List Bool) (n : Node) → IsTrueCache shares side cache → found_in cache i q ≡ Some n
    → n ≡ node (share_at shares i) side q
found-true shares side [] i q n h e = let impossible : ⊥ = cc in absurd impossible
found-true shares side (x ∷ xs) i q n h e = at (is_entry i q x) refl e (found-true shares side xs i q n h.1)
  where
    at : (b : Bool) → is_entry i q x ≡ b → (if b then Some x.node else found_in xs i q) ≡ Some n
        → (found_in xs i q ≡ Some n → n ≡ node (share_at shares i) side q) → n ≡ node (share_at shares i) side q
    at true f g more =
        let same : x.node ≡ n = cc in
        let is = is-its-entry x i q f in
        sym same ∙ h.0 ∙ ap (λ j. node (share_at shares j) side x.prefix) is.0 ∙ ap (node (share_at shares i) side) is.1
    at false f g more = more g

-- none is found exactly where no entry is of the report and the prefix
pub none-found : (cache : List CacheEntry) (i : ℕ) (q : List Bool) → is_none (found_in cache i q) ≡ list_all (λ e. not (is_entry i q e)) cache
none-found [] i q = refl
none-found (x ∷ xs) i q = at (is_entry i q x) (none-found xs i q)
  where
    at : (b : Bool) → is_none (found_in xs i q) ≡ list_all (λ e. not (is_entry i q e)) xs
        → is_none (if b then Some x.node else found_in xs i q) ≡ (not b && list_all (λ e. not (is_entry i q e)) xs)
    at true rest = refl
    at false rest = rest

-- a report that is there may be evaluated at a prefix with some bits, and not too many, exactly where none is found
pub may-be : (bits reports : ℕ) (cache : List CacheEntry) (i : ℕ) (q : List Bool) → i < reports → 0 < length q → length q ≤ bits
    → is_none (found_in cache i q) ≡ may_fill bits reports cache i q
may-be bits reports cache i q below some most =
    let last = list_all (λ e. not (is_entry i q e)) cache in
    none-found cache i q
    ∙ sym (ap (λ b. b && (nat_lt 0 (length q) && (nat_le (length q) bits && last))) (lt-ltb i reports below)
    ∙ ap (λ b. b && (nat_le (length q) bits && last)) (lt-ltb 0 (length q) some)
    ∙ ap (λ b. b && last) (le-true (length q) bits most))

read-bit : (q : List Bool) (i : ℕ) (b : Bool) → slice_get q i ≡ Some b → slice_index_or q i false ≡ b
read-bit [] i b e = let impossible : ⊥ = cc in absurd impossible
read-bit (x ∷ xs) zero b e = cc
read-bit (x ∷ xs) (suc i) b e = read-bit xs i b e

-- the child of the parent's node along the last bit
pub child-node : (share : Share) (side : Side) (q : List Bool) (above : Node) (level : ℕ) (bit : Bool) → 1 ≤ length q → length q ≤ length share.levels
    → level ≡ length q → above ≡ node share side (parent q) → slice_get q (level - 1) ≡ Some bit
    → child (level_word share level) side above bit ≡ node share side q
child-node share side q above level bit some most is up last =
    ap (λ l. child (level_word share l) side above bit) is
    ∙ ap (λ n. child (level_word share (length q)) side n bit) up
    ∙ ap (child (level_word share (length q)) side (node share side (parent q)))
    (sym (read-bit q (length q - 1) bit (sym (ap (λ l. slice_get q (l - 1)) is) ∙ last)))
    ∙ child-is share side q (and_from _ _ (lt-ltb 0 (length q) (omega (arith, some))) (le-true (length q) (length share.levels) most))
