-- Each phase of a walk meets what a phase asks of its plan.
use Rattle.std.proofs.Common.{◌≡◌, ℕ, suc, ◌+◌, ◌*◌, ◌<◌, ◌≤◌, ◌^◌, List, [], ◌∷◌, length, arith}
use Rattle.std.specs.List.{All, AllByRecursion}
use Rattle.std.proofs.lemmas.Nat.{mul-le}
use Rattle.core_definitions.specs.Phase.{CoreSettings, ArePlaces}
use Rattle.half_events.specs.Settings.{AreUsable}
use Rattle.half_events.specs.Stages.{IsStage}
use Rattle.interleaving_core.specs.declared.running.Walker.{Walker}
use Rattle.interleaving_core.specs.Walks.{stage_of}
use Rattle.interleaving_core.specs.Turns.{IsReady}

later : (low low' : ℕ) (is : List ℕ) → low' ≤ suc low → AllByRecursion (λ j. low < j) is → AllByRecursion (λ j. low' ≤ j) is
later low low' [] p h = tt
later low low' (i ∷ is) p h = (omega (arith, p, h.0), later low low' is p h.1)

-- ascending places below a size are no more than the size
places-few : (size low : ℕ) (is : List ℕ) → low ≤ size → AllByRecursion (λ j. low ≤ j) is → ArePlaces size is → low + length is ≤ size
places-few size low [] p h a = omega (arith, p)
places-few size low (i ∷ is) p h a =
    let rest = places-few size (suc i) is (omega (arith, a.0)) (later i (suc i) is (omega arith) a.1) a.2 in
    omega (arith, rest, h.0)

from-none : (is : List ℕ) → AllByRecursion (λ j. 0 ≤ j) is
from-none [] = tt
from-none (i ∷ is) = (omega arith, from-none is)

pub size-low : (size cap bound : ℕ) → 1 ≤ cap → size * cap < bound → size < bound
size-low size cap bound some small =
    let most = mul-le size 1 size cap (omega arith) some in omega (arith, most, small)

pub fits-stage : (most_bits : ℕ) (core : CoreSettings) → AreUsable most_bits core → (w : Walker) → IsReady core w
    → All (λ q. length q ≡ w.walked.frontier.level) w.walked.frontier.candidates → length w.walked.frontier.candidates ≤ 65536 → w.walked.frontier.level ≤ w.walked.frontier.bits
    → IsStage core (stage_of w.walked)
fits-stage most_bits core usable w ready long most last =
    let live = w.walked.live.items in
    let few = places-few (length w.walked.batch) 0 live (omega arith) (from-none live) ready.kept.places in
    let cap = ready.kept.few usable.some_cap in
    let pairs = mul-le (length live) (length w.walked.frontier.candidates) (length w.walked.batch) core.walk.cap (omega (arith, few)) cap in
    let reports = size-low (length w.walked.batch) core.walk.cap (2 ^ 31) (omega (arith, usable.some_cap)) ready.fit.small in
    record {
      levels = ready.fit.levels;
      inside = omega (arith, last, ready.fit.some_level, ready.fit.bits_are);
      bits = λ i d p. let l = long i d p in omega (arith, l, ready.fit.some_level);
      places = ready.kept.places;
      few = omega (arith, most);
      reports = omega (arith, few, reports);
      small = omega (arith, pairs, ready.fit.small);
    }
