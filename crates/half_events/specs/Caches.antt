-- What a cache has.
use Rattle.std.specs.List.{list_all}
use Rattle.std.specs.Prelude.{◌≡◌, ℕ, if◌then◌else◌, ◌&&◌, not, nat_lt, nat_le, length, Bool, List, [], ◌∷◌, Option, Some, None}
use Rattle.definitions.specs.declared.Side.{Side}
use Rattle.definitions.specs.Evaluation.{Share, Node, node}
use Rattle.core_definitions.specs.Phase.{CacheEntry, is_entry}
use Rattle.phase_state.specs.Sums.{share_at}

-- the node of the first entry of the report and the prefix
abbrev pub found_in : List CacheEntry → ℕ → List Bool → Option Node
found_in [] i q = None
found_in (e ∷ es) i q = if is_entry i q e then Some e.node else found_in es i q

-- each entry is what the evaluation from the root gives
abbrev pub IsTrueCache : List Share → Side → List CacheEntry → Type 0
IsTrueCache shares side [] = Unit {0}
IsTrueCache shares side (e ∷ es) = (e.node ≡ node (share_at shares e.report) side e.prefix) × IsTrueCache shares side es

-- a report may be evaluated into the cache: it is there, the prefix has some bits and no more than the strings, and is new
abbrev pub may_fill : ℕ → ℕ → List CacheEntry → ℕ → List Bool → Bool
may_fill bits reports cache i q =
    nat_lt i reports && (nat_lt 0 (length q) && (nat_le (length q) bits && list_all (λ e. not (is_entry i q e)) cache))

-- the cache afterwards
abbrev pub filled : ℕ → List Share → Side → ℕ → List Bool → List CacheEntry → List CacheEntry
filled bits shares side i q cache =
    if may_fill bits (length shares) cache i q
    then record { report = i; prefix = q; node = node (share_at shares i) side q } ∷ cache
    else cache
