-- The caches of a walk, as those of the shares of two plans.
use Rattle.std.proofs.Common.{◌≡◌, ℕ, List, map, sym, subst}
use Rattle.definitions.specs.declared.Side.TheVariants.{Zero, One}
use Rattle.definitions.specs.Evaluation.{Share}
use Rattle.walk_definitions.specs.Reports.{Report, held}
use Rattle.phase_sums.specs.Caches.{CachesSeen, HoldSeen, AreCaches}
use Rattle.pair_run.specs.SideCaches.{HasCaches}

module _ (batch : List Report) (workers : ℕ) (caches : CachesSeen) (hold : HoldSeen) (shares0 shares1 : List Share)
    (is0 : shares0 ≡ map (λ r. held r Zero) batch) (is1 : shares1 ≡ map (λ r. held r One) batch) where
  pub caches_as : HasCaches batch workers caches hold → AreCaches shares0 shares1 workers caches hold
  caches_as h =
      subst (λ (ss : List Share). AreCaches ss shares1 workers caches hold) (sym is0)
      (subst (λ (ss : List Share). AreCaches (map (λ r. held r Zero) batch) ss workers caches hold) (sym is1) h)

  pub caches_of : AreCaches shares0 shares1 workers caches hold → HasCaches batch workers caches hold
  caches_of h =
      subst (λ (ss : List Share). AreCaches (map (λ r. held r Zero) batch) ss workers caches hold) is1
      (subst (λ (ss : List Share). AreCaches ss shares1 workers caches hold) is0 h)
