use Rattle.std.proofs.Common.{◌≡◌, ◌≤◌, sym, ◌∙◌, ap, get_or, length}
use Rattle.definitions.specs.Evaluation.{Share}
use Rattle.core_definitions.specs.Phase.{no_share, parent}
use Rattle.phase_state.specs.declared.phase_plan.PlanSeen.{PlanSeen}
use Rattle.phase_state.specs.Sums.{share_at}
use Rattle.half_events.specs.Caches.{found_in}
use Rattle.std.proofs.lemmas.List.{get_or_read}
use Rattle.definitions.specs.Evaluation.{child, level_word}
use Rattle.half_events.proofs.Entries.{found-true, child-node}
use Rattle.half_events.proofs.cached.node_of.Goals as goal

pub returns-in-Some : goal.returns-in-Some
returns-in-Some c =
    found-true c.args.plan.now.shares c.args.plan.now.side c.args.cache.now c.args.report c.args.prefix.now c.in-Some.node c.requires.cached
    (sym c.find.ensures ∙ c.in-Some.is)

pub returns-in-Some-find : goal.returns-in-Some-find
returns-in-Some-find c =
    let plan = c.args.plan.now in
    let q = c.args.prefix.now in
    let share = share_at plan.shares c.args.report in
    let read = c.index-plan-report.is ∙ ap (λ (p : PlanSeen). get_or p.shares c.args.report c.index-plan-report.result) c.plan.view_is in
    let is : c.index-plan-report.result ≡ share = get_or_read plan.shares c.args.report c.index-plan-report.result c.requires.report read no_share in
    let side = ap (λ (p : PlanSeen). p.side) c.plan.view_is in
    let up = found-true plan.shares plan.side c.args.cache.now c.args.report (parent q) c.in-Some-find.parent c.requires.cached
    (sym (c.find-2.ensures ∙ ap (λ r. found_in c.args.cache.now c.args.report r) c.parent.ensures) ∙ c.in-Some-find.is) in
    let bits : length q ≤ length share.levels = c.requires.bits c.args.report no_share c.requires.report in
    c.child_of.ensures
    ∙ ap (λ (s : Share). child (level_word s c.len-level.result) c.plan.inside.side c.in-Some-find.parent c.bit.result) (sym c.index-plan-report.is ∙ is)
    ∙ ap (λ d. child (level_word share c.len-level.result) d c.in-Some-find.parent c.bit.result) side
    ∙ child-node share plan.side q c.in-Some-find.parent c.len-level.result c.bit.result c.requires.some bits c.len-level.ensures.count up c.bit.ensures
