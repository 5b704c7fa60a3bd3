use Rattle.std.proofs.Common.{◌∙◌, ◌+◌, refl, arith}
use Rattle.pair_files.proofs.BothLaws.{first_is_there, second_is_there, fronts_of_longer}
use Rattle.pair_files.proofs.PairSteps.{on_err, lines_are_fronts, zero_block_more, one_block_more}
use Rattle.pair_files.proofs.writing.write_pairs.Goals as goal

pub returns-in_err-write_headers-clause-part : goal.returns-in_err-write_headers-clause-part
returns-in_err-write_headers-clause-part g c =
    on_err c.from_residual.result (fronts_of_longer _ _ c.args.zero_name.now _ _ c.args.one_name.now _ _ c.in_err-write_headers.ensures.part)

pub returns-in_err-zeros-clause-part : goal.returns-in_err-zeros-clause-part
returns-in_err-zeros-clause-part g c =
    on_err c.from_residual-in_err-zeros.result
    (lines_are_fronts _ _ c.args.zero_name.now c.args.one_name.now c.args.settings.now c.args.strings.now c.loop-line.line c.loop-line.line c.loop-line.invariant.held)

pub append_record-requires : goal.append_record-requires
append_record-requires g c = record { there = first_is_there _ _ c.args.zero_name.now _ c.args.one_name.now _ c.requires.differ c.loop-place.invariant.held }

pub returns-in_err-append_record-clause-part : goal.returns-in_err-append_record-clause-part
returns-in_err-append_record-clause-part g c =
    on_err c.from_residual-in_err-append_record.result
    (lines_are_fronts _ _ c.args.zero_name.now c.args.one_name.now c.args.settings.now c.args.strings.now (c.loop-line.line + c.loop-place.place)
    (c.loop-line.line + c.loop-place.place) (c.in_err-append_record.ensures.refused ∙ c.loop-place.invariant.held))

pub append_record-requires-in-loop-place : goal.append_record-requires-in-loop-place
append_record-requires-in-loop-place g c =
    let grown = zero_block_more _ _ _ c.args.zero_name.now c.args.one_name.now c.args.settings.now c.args.strings.now _ c.loop-line.line _ c.loop-place.place
    c.in_ok-zeros.zeros.items _ c.in_ok-zeros.ensures.zeros refl c.requires.differ (omega (arith, c.in_ok-zeros.ensures.counts)) c.index.ensures
    c.loop-place.invariant.held c.in_ok-append_record.ensures.appended in
    record { there = second_is_there _ _ c.args.zero_name.now _ c.args.one_name.now _ grown }

pub returns-in_err-append_record-2-clause-part : goal.returns-in_err-append_record-2-clause-part
returns-in_err-append_record-2-clause-part g c =
    let grown = zero_block_more _ _ _ c.args.zero_name.now c.args.one_name.now c.args.settings.now c.args.strings.now _ c.loop-line.line _ c.loop-place.place
    c.in_ok-zeros.zeros.items _ c.in_ok-zeros.ensures.zeros refl c.requires.differ (omega (arith, c.in_ok-zeros.ensures.counts)) c.index.ensures
    c.loop-place.invariant.held c.in_ok-append_record.ensures.appended in
    on_err c.from_residual-in_err-append_record-2.result
    (lines_are_fronts _ _ c.args.zero_name.now c.args.one_name.now c.args.settings.now c.args.strings.now (c.loop-line.line + c.loop-place.place + 1)
    (c.loop-line.line + c.loop-place.place) (c.in_err-append_record-2.ensures.refused ∙ grown))

pub loop-place-preserved : goal.loop-place-preserved
loop-place-preserved g c =
    let grown = zero_block_more _ _ _ c.args.zero_name.now c.args.one_name.now c.args.settings.now c.args.strings.now _ c.loop-line.line _ c.loop-place.place
    c.in_ok-zeros.zeros.items _ c.in_ok-zeros.ensures.zeros refl c.requires.differ (omega (arith, c.in_ok-zeros.ensures.counts)) c.index.ensures
    c.loop-place.invariant.held c.in_ok-append_record.ensures.appended in
    record {
      held = one_block_more _ _ _ c.args.zero_name.now c.args.one_name.now c.args.settings.now c.args.strings.now _ c.loop-line.line _ c.loop-place.place
          c.in_ok-zeros.ones.items _ c.in_ok-zeros.ensures.ones refl (omega (arith, c.in_ok-zeros.ensures.counts)) c.index-in-loop-place.ensures
          grown c.in_ok-append_record-2.ensures.appended;
      count = omega (arith, c.loop-place.invariant.count, c.in_ok-append_record.ensures.cause.later, c.in_ok-append_record-2.ensures.cause.later);
    }
