use Rattle.std.proofs.Common.{◌≡◌, length}
use Rattle.node_growth.specs.Plans.{IsPlanned}
use Rattle.node_growth.proofs.plan.plan_steps.Given as goal

abbrev pub invariant-loop-k : goal.invariant-loop-k
invariant-loop-k l = record {
  same : length l.steps ≡ length l.initial.steps;
  planned : IsPlanned l.prefixes l.depth l.parents l.initial.places l.places l.steps l.made l.k;
}
