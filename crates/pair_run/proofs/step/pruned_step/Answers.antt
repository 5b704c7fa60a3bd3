use Rattle.std.proofs.Common.{◌∙◌, ◌<◌, ap, sym, length, arith}
use Rattle.std.proofs.lemmas.List.Elements.{recursion_from_All}
use Rattle.frontier_walk.specs.Outcomes.{outcome_of, answered, pruned}
use Rattle.pair_run.proofs.SideNumbers.{length_picked}
use Rattle.pair_run.proofs.WalkSteps.{answered_long}
use Rattle.pair_run.proofs.step.pruned_step.Goals as goal

pub returns-clause-outcome : goal.returns-clause-outcome
returns-clause-outcome c = (
  ap (λ ns. pruned c.args.frontier ns c.args.settings.now.threshold) (sym c.deref.ensures.value) ∙ sym c.in_ok-next.ensures.outcome ∙ ap outcome_of c.in-Done.is
      ∙ ap answered (sym c.from_vec.ensures.same),
  c.level-level.ensures.value,
  omega (
    arith,
    c.len-in-Done.ensures,
    c.args.walked.live.ok.0,
    length_picked c.args.batch.now c.args.walked.live.items
        (recursion_from_All (λ k. k < length c.args.batch.now) c.args.walked.live.items c.requires.places),
  ),
)

pub returns-clause-kept : goal.returns-clause-kept
returns-clause-kept c = (
  c.len.ensures,
  answered_long c.args.frontier c.args.walked.totals.items c.args.settings.now.threshold c.from_vec.result c.requires.long (sym (returns-clause-outcome c).0),
)
