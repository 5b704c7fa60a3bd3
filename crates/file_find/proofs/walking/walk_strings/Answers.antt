use Rattle.std.proofs.Common.{length, arith}
use Rattle.file_run.proofs.WalkSteps.{same_walk}
use Rattle.file_find.specs.Walks.{settings_for, reports_for}
use Rattle.file_find.proofs.MadeSteps.{levels0, levels1, count0, count1, made_batch}
use Rattle.file_find.proofs.walking.walk_strings.Goals as goal

pub run_pair-requires-clause-levels0 : goal.run_pair-requires-clause-levels0
run_pair-requires-clause-levels0 g c = λ _ _.
    levels0 c.args.rules.now c.pair_settings.result c.args.strings.now c.in_ok-zeros.zeros.items c.in_ok-zeros.ones.items
    c.in_ok-zeros.ensures.zero c.in_ok-zeros.ensures.one c.pair_settings.ensures.master c.pair_settings.ensures.tag
    c.requires.whole c.walk_settings-settings.result.bits c.walk_settings-settings.ensures.bits

pub run_pair-requires-clause-levels1 : goal.run_pair-requires-clause-levels1
run_pair-requires-clause-levels1 g c = λ _ _.
    levels1 c.args.rules.now c.pair_settings.result c.args.strings.now c.in_ok-zeros.zeros.items c.in_ok-zeros.ones.items
    c.in_ok-zeros.ensures.zero c.in_ok-zeros.ensures.one c.pair_settings.ensures.master c.pair_settings.ensures.tag
    c.requires.whole c.walk_settings-settings.result.bits c.walk_settings-settings.ensures.bits

pub run_pair-requires-clause-few0 : goal.run_pair-requires-clause-few0
run_pair-requires-clause-few0 g c =
    let count = count0 c.args.rules.now c.pair_settings.result c.args.strings.now c.in_ok-zeros.zeros.items c.in_ok-zeros.ones.items
    c.in_ok-zeros.ensures.zero c.in_ok-zeros.ensures.one c.pair_settings.ensures.master c.pair_settings.ensures.tag c.requires.whole in
    omega (arith, count, c.requires.few)

pub run_pair-requires-clause-few1 : goal.run_pair-requires-clause-few1
run_pair-requires-clause-few1 g c =
    let count = count1 c.args.rules.now c.pair_settings.result c.args.strings.now c.in_ok-zeros.zeros.items c.in_ok-zeros.ones.items
    c.in_ok-zeros.ensures.zero c.in_ok-zeros.ensures.one c.pair_settings.ensures.master c.pair_settings.ensures.tag c.requires.whole in
    omega (arith, count, c.requires.few)

pub run_pair-requires-clause-tiles : goal.run_pair-requires-clause-tiles
run_pair-requires-clause-tiles g c = λ _ _.
    let count = count0 c.args.rules.now c.pair_settings.result c.args.strings.now c.in_ok-zeros.zeros.items c.in_ok-zeros.ones.items
    c.in_ok-zeros.ensures.zero c.in_ok-zeros.ensures.one c.pair_settings.ensures.master c.pair_settings.ensures.tag c.requires.whole in
    c.walk_settings-settings.ensures.tiles (length c.in_ok-zeros.zeros.items) (omega (arith, count, c.requires.few))

pub returns : goal.returns
returns g c =
    same_walk _ (settings_for c.args.rules.now) _ (reports_for c.args.rules.now c.args.strings.now) _ _ _ c.walk_settings-settings.ensures.rules
    (made_batch c.args.rules.now c.pair_settings.result c.args.strings.now c.in_ok-zeros.zeros.items c.in_ok-zeros.ones.items
    c.in_ok-zeros.ensures.zero c.in_ok-zeros.ensures.one c.pair_settings.ensures.master c.pair_settings.ensures.tag c.requires.few)
    c.run_pair.ensures
