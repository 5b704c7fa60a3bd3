use Rattle.std.proofs.Common.{◌≡◌, ◌≤◌, List, Bool, length, sym, ap, subst, arith}
use Rattle.std.specs.List.{All}
use Rattle.std.proofs.lemmas.List.{length-map}
use Rattle.definitions.specs.declared.Side.TheVariants.{Zero, One}
use Rattle.definitions.specs.Evaluation.{Share}
use Rattle.walk_definitions.specs.Reports.{Report, held}
use Rattle.pair_run.proofs.level_nodes.keep_nodes.Goals as goal

pub keep-requires-clause-bits : goal.keep-requires-clause-bits
keep-requires-clause-bits g c κs within = subst (λ l. All (λ (q : List Bool). length q ≡ l) c.candidates-candidates.result.now) (sym c.level-level.ensures.value) c.candidates-candidates.ensures.long

pub keep-requires-clause-live0 : goal.keep-requires-clause-live0
keep-requires-clause-live0 g c κs within = λ k d h.
    omega (arith, c.requires.places k d h, ap length c.requires.caches.of0, length-map c.args.batch.now (λ (r : Report). held r Zero))

pub keep-requires-clause-live1 : goal.keep-requires-clause-live1
keep-requires-clause-live1 g c κs within = λ k d h.
    omega (arith, c.requires.places k d h, ap length c.requires.caches.of1, length-map c.args.batch.now (λ (r : Report). held r One))

pub keep-requires-clause-levels0 : goal.keep-requires-clause-levels0
keep-requires-clause-levels0 g c κs within =
    subst (λ (ss : List Share). All (λ (s : Share). c.level-level.result ≤ length s.levels) ss) (sym c.requires.caches.of0)
    (λ k d h. omega (arith, c.requires.levels Zero k d h, c.level-level.ensures.last.0, c.requires.bits))

pub keep-requires-clause-levels1 : goal.keep-requires-clause-levels1
keep-requires-clause-levels1 g c κs within =
    subst (λ (ss : List Share). All (λ (s : Share). c.level-level.result ≤ length s.levels) ss) (sym c.requires.caches.of1)
    (λ k d h. omega (arith, c.requires.levels One k d h, c.level-level.ensures.last.0, c.requires.bits))
