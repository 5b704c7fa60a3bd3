use Rattle.std.proofs.Common.{sym, ◌∙◌, ap}
use Rattle.definitions.specs.declared.Side.TheVariants.{Zero, One}
use Rattle.half_events.specs.Stages.{StageSeen, phase_at, kind_of}
use Rattle.interleaving_core.proofs.Readings.{sums-count, totals-count, live-found, totals-found-both}
use Rattle.interleaving_core.proofs.phases.find_all.Goals as goal

pub passed_places-requires-clause-zero : goal.passed_places-requires-clause-zero
passed_places-requires-clause-zero c =
    sums-count c.args.settings.now (phase_at c.args.stage.now) Zero c.args.sides.now.zero c.requires.sides.zero c.sums.result.now c.sums.ensures.sums

pub passed_places-requires-clause-one : goal.passed_places-requires-clause-one
passed_places-requires-clause-one c =
    sums-count c.args.settings.now (phase_at c.args.stage.now) One c.args.sides.now.one c.requires.sides.one c.sums-in-Sketch.result.now c.sums-in-Sketch.ensures.sums

pub added_totals-requires : goal.added_totals-requires
added_totals-requires c = record {
  same = totals-count c.args.settings.now (phase_at c.args.stage.now) Zero c.args.sides.now.zero c.requires.sides.zero c.totals.result.now c.totals.ensures.totals
      ∙ sym (totals-count c.args.settings.now (phase_at c.args.stage.now) One c.args.sides.now.one c.requires.sides.one c.totals-in-Totals.result.now c.totals-in-Totals.ensures.totals);
}

pub returns-in_ok-live-in-Sketch : goal.returns-in_ok-live-in-Sketch
returns-in_ok-live-in-Sketch c =
    live-found c.args.settings.now c.args.stage.now c.args.sides.now c.requires.sides c.sums.result.now c.sums-in-Sketch.result.now c.in_ok-live-in-Sketch.live
    (sym (ap (λ (s : StageSeen). s.kind) c.stage.view_is) ∙ ap kind_of c.in-Sketch.is) c.sums.ensures.sums c.sums-in-Sketch.ensures.sums c.in_ok-live-in-Sketch.ensures

pub returns-in_ok-totals-in-Totals : goal.returns-in_ok-totals-in-Totals
returns-in_ok-totals-in-Totals c =
    totals-found-both c.args.settings.now c.args.stage.now c.args.sides.now c.requires.sides c.totals.result.now c.totals-in-Totals.result.now c.in_ok-totals-in-Totals.totals
    (sym (ap (λ (s : StageSeen). s.kind) c.stage.view_is) ∙ ap kind_of c.in-Totals.is) c.totals.ensures.totals c.totals-in-Totals.ensures.totals c.in_ok-totals-in-Totals.ensures
