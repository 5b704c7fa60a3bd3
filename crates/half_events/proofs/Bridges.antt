-- The program's shares and entries are those of the definitions.
use Rattle.std.proofs.Common.{◌≡◌, ℕ, zero, suc, List, [], ◌∷◌, map, refl, sym, ◌∙◌, ap}
use Rattle.definitions.specs.declared.Side.{Side}
use Rattle.definitions.specs.declared.Side.TheVariants.{Zero, One}
use Rattle.definitions.specs.Evaluation.{Share, node}
use Rattle.walk_definitions.specs.Reports.{Report, held}
use Rattle.core_definitions.specs.Phase.{CacheEntry, AreTrue, report_at}
use Rattle.phase_state.specs.Sums.{share_at}
use Rattle.half_events.specs.Caches.{IsTrueCache}

-- ---- a side's share at a report's place

pub share-held : (side : Side) (batch : List Report) (i : ℕ) → share_at (map (λ r. held r side) batch) i ≡ held (report_at batch i) side
share-held Zero [] i = refl
share-held One [] i = refl
share-held side (r ∷ rs) zero = refl
share-held side (r ∷ rs) (suc i) = share-held side rs i

pub cache-true : (shares : List Share) (batch : List Report) (side : Side) (cache : List CacheEntry) → shares ≡ map (λ r. held r side) batch → AreTrue batch side cache
    → IsTrueCache shares side cache
cache-true shares batch side [] e h = tt
cache-true shares batch side (x ∷ xs) e h =
    (h.0 ∙ ap (λ s. node s side x.prefix) (sym (ap (λ ss. share_at ss x.report) e ∙ share-held side batch x.report)), cache-true shares batch side xs e h.1)
