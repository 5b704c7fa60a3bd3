use Rattle.std.proofs.Common.{◌≡◌, ◌≤◌, ap, sym, subst, length, arith}
use Rattle.std.specs.Prelude.{map}
use Rattle.std.specs.List.{All}
use Rattle.shelf_io.specs.Seen.{link_seen}
use Rattle.walk_definitions.specs.Reports.{batch, held}
use Rattle.report_batch.proofs.Given.{all_levels}
use Rattle.report_batch.proofs.Sizes.{size}
use Rattle.pair_run.specs.Rules.{rules_of}
use Rattle.pair_run.proofs.Keeping.{no_memory_keeps}
use Rattle.pair_run.proofs.Phases.{fewer_reports}
use Rattle.pair_run.proofs.collected_walk.walk_collected.Goals as goal

pub walk-requires-clause-levels : goal.walk-requires-clause-levels
walk-requires-clause-levels g c = λ _ _ side.
    subst (λ rs. All (λ s. length s.levels ≡ c.args.settings.now.bits) (map (λ r. held r side) rs)) (sym c.in_ok-reports.ensures.exact)
    (all_levels c.args.settings.now.bits c.args.collect.zero c.args.collect.one c.requires.levels0 c.requires.levels1 side)

pub walk-requires-clause-few : goal.walk-requires-clause-few
walk-requires-clause-few g c =
    let count = ap (λ rs. length rs) c.in_ok-reports.ensures.exact in
    omega (arith, count, (size c.args.collect.zero c.args.collect.one).0, c.requires.few)

pub walk-requires-clause-tiles : goal.walk-requires-clause-tiles
walk-requires-clause-tiles g c = λ _ _.
    let count = ap (λ rs. length rs) c.in_ok-reports.ensures.exact in
    let fewer : length c.in_ok-reports.reports ≤ length c.args.collect.zero = omega (arith, count, (size c.args.collect.zero c.args.collect.one).0) in
    fewer_reports c.args.settings.now (length c.in_ok-reports.reports) (length c.args.collect.zero) c.requires.settings.some_reports
    c.requires.settings.some_candidates fewer c.requires.tiles

pub returns-in_err-reports : goal.returns-in_err-reports
returns-in_err-reports g c =
    no_memory_keeps (rules_of c.args.settings.now) (batch c.args.collect.zero c.args.collect.one) (link_seen g.K.Link c.args.link.now)
    c.from_residual.result c.from_residual.ensures
