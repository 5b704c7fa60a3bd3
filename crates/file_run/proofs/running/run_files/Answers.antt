use Rattle.std.proofs.Common.{◌≡◌, ◌∙◌, ap, sym, length, arith}
use Rattle.definitions.specs.declared.Side.TheVariants.{Zero, One}
use Rattle.answer_text.specs.AnswerText.{sealed_line}
use Rattle.walk_definitions.specs.Reports.{batch}
use Rattle.shelf_io.specs.Seen.{sources}
use Rattle.file_run.specs.Beginnings.{Both, settings_for, batch_for}
use Rattle.file_run.proofs.ReadSteps.{both_begun}
use Rattle.file_run.proofs.CollectSteps.{levels_read, few_read}
use Rattle.file_run.proofs.WalkSteps.{batches_same, lines_same, same_walk, error_keeps, texts_keeps, no_texts_keeps}
use Rattle.file_run.proofs.running.run_files.Goals as goal

pub walk_collected-walked-requires-clause-levels0 : goal.walk_collected-walked-requires-clause-levels0
walk_collected-walked-requires-clause-levels0 g c = λ _ _.
    let read = c.in-Ok.read in
    levels_read (g.H.Shelf.files c.args.shelf.now) Zero c.args.zero.now read.width c.walk_settings-settings.result.bits read.malformed0 read.collect.zero
    c.walk_settings-settings.ensures.bits c.in-Ok.ensures.read.zeros

pub walk_collected-walked-requires-clause-levels1 : goal.walk_collected-walked-requires-clause-levels1
walk_collected-walked-requires-clause-levels1 g c = λ _ _.
    let read = c.in-Ok.read in
    levels_read (g.H.Shelf.files c.args.shelf.now) One c.args.one.now read.width c.walk_settings-settings.result.bits read.malformed1 read.collect.one
    c.walk_settings-settings.ensures.bits c.in-Ok.ensures.read.ones

pub walk_collected-walked-requires-clause-few : goal.walk_collected-walked-requires-clause-few
walk_collected-walked-requires-clause-few g c =
    let read = c.in-Ok.read in
    omega (arith, few_read (g.H.Shelf.files c.args.shelf.now) Zero c.args.zero.now read.width read.malformed0 read.collect.zero c.in-Ok.ensures.read.zeros)

pub walk_collected-walked-requires-clause-tiles : goal.walk_collected-walked-requires-clause-tiles
walk_collected-walked-requires-clause-tiles g c = λ _ _.
    let read = c.in-Ok.read in
    c.walk_settings-settings.ensures.tiles (length read.collect.zero)
    (few_read (g.H.Shelf.files c.args.shelf.now) Zero c.args.zero.now read.width read.malformed0 read.collect.zero c.in-Ok.ensures.read.zeros)

pub returns-in-Ok-texts_of : goal.returns-in-Ok-texts_of
returns-in-Ok-texts_of g c =
    let rules = c.args.rules.now in
    let read = c.in-Ok.read in
    let zeros = c.in-Ok.ensures.read.zeros in let ones = c.in-Ok.ensures.read.ones in
    let both : Both = (zeros.lists, ones.lists) in
    let answer = c.in-Ok-walked.answer in let texts = c.in-Ok-texts_of.texts in
    texts_keeps c.args.zero.now c.args.one.now rules
    (sources g.H.Shelf g.L.Link c.args.shelf.now c.args.link.now)
    (sources g.H.Shelf g.L.Link c.collect_both.new.shelf c.walk_collected-walked.new.link)
    both (both_begun (g.H.Shelf.files c.args.shelf.now) c.args.zero.now c.args.one.now zeros.lists ones.lists zeros.exact ones.exact (zeros.wide ∙ sym ones.wide))
    c.in-Ok.ensures.kept c.in-Ok.ensures.cause.later texts answer c.in-Ok-texts_of.ensures.out
    (lines_same both c.as_slice-malformed0.result.now c.as_slice-malformed1.result.now (sealed_line answer.sealed answer.passed answer.levels) texts.err.items
    c.in-Ok-texts_of.ensures.err (c.as_slice-malformed0.ensures.same ∙ sym zeros.refused) (c.as_slice-malformed1.ensures.same ∙ sym ones.refused))
    (same_walk _ (settings_for rules zeros.lists.width) _ (batch_for both) _ _ _
    (c.walk_settings-settings.ensures.rules ∙ ap (settings_for rules) (sym zeros.wide))
    (batches_same both read.collect.zero read.collect.one zeros.same ones.same) c.in-Ok-walked.ensures)

pub returns : goal.returns
returns g c =
    let rules = c.args.rules.now in
    let read = c.in-Ok.read in
    let zeros = c.in-Ok.ensures.read.zeros in let ones = c.in-Ok.ensures.read.ones in
    let both : Both = (zeros.lists, ones.lists) in
    no_texts_keeps c.args.zero.now c.args.one.now rules
    (sources g.H.Shelf g.L.Link c.args.shelf.now c.args.link.now)
    (sources g.H.Shelf g.L.Link c.collect_both.new.shelf c.walk_collected-walked.new.link)
    both (both_begun (g.H.Shelf.files c.args.shelf.now) c.args.zero.now c.args.one.now zeros.lists ones.lists zeros.exact ones.exact (zeros.wide ∙ sym ones.wide))
    c.in-Ok.ensures.kept c.in-Ok.ensures.cause.later c.in-Ok-walked.answer
    (same_walk _ (settings_for rules zeros.lists.width) _ (batch_for both) _ _ _
    (c.walk_settings-settings.ensures.rules ∙ ap (settings_for rules) (sym zeros.wide))
    (batches_same both read.collect.zero read.collect.one zeros.same ones.same) c.in-Ok-walked.ensures)

pub returns-in-Err-walked : goal.returns-in-Err-walked
returns-in-Err-walked g c =
    let rules = c.args.rules.now in
    let read = c.in-Ok.read in
    let zeros = c.in-Ok.ensures.read.zeros in let ones = c.in-Ok.ensures.read.ones in
    let both : Both = (zeros.lists, ones.lists) in
    error_keeps c.args.zero.now c.args.one.now rules
    (sources g.H.Shelf g.L.Link c.args.shelf.now c.args.link.now)
    (sources g.H.Shelf g.L.Link c.collect_both.new.shelf c.walk_collected-walked.new.link)
    both (both_begun (g.H.Shelf.files c.args.shelf.now) c.args.zero.now c.args.one.now zeros.lists ones.lists zeros.exact ones.exact (zeros.wide ∙ sym ones.wide))
    c.in-Ok.ensures.kept c.in-Ok.ensures.cause.later c.in-Err-walked.error
    (same_walk _ (settings_for rules zeros.lists.width) _ (batch_for both) _ _ _
    (c.walk_settings-settings.ensures.rules ∙ ap (settings_for rules) (sym zeros.wide))
    (batches_same both read.collect.zero read.collect.one zeros.same ones.same) c.in-Err-walked.ensures)
