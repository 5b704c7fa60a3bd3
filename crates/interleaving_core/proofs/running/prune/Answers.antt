use Rattle.std.proofs.Common.{sym, ◌∙◌, ap, subst, ◌++◌, ◌∷◌, []}
use Rattle.core_definitions.specs.Phase.{CoreSettings}
use Rattle.frontier_walk.specs.Outcomes.{outcome_of, pruned, IsCause}
use Rattle.interleaving_core.proofs.Pruning.{leads-on, leads-to-answer, leads-to-cap}
use Rattle.interleaving_core.proofs.running.prune.Goals as goal

pub returns-in-Ok-Level : goal.returns-in-Ok-Level
returns-in-Ok-Level c =
    let w = c.args.walker in
    leads-on c.args.settings.now w c.args.totals.items c.push.new.self c.requires.fit c.requires.kind
    (c.in_ok-push.ensures.items ∙ ap (λ t. w.walked.totals.items ++ t ∷ []) c.from_vec.ensures.same) c.in-Ok-Level.frontier c.requires.kept
    (sym (ap outcome_of c.in-Ok-Level.field-0-is) ∙ c.in-Ok-Level.ensures.outcome
    ∙ ap (λ ns. pruned w.walked.frontier ns c.settings.inside.threshold) c.deref.ensures.value
    ∙ ap (λ (s : CoreSettings). pruned w.walked.frontier c.args.totals.items s.walk.threshold) c.settings.view_is)

pub returns-in-Ok-Done : goal.returns-in-Ok-Done
returns-in-Ok-Done c =
    let w = c.args.walker in
    leads-to-answer c.args.settings.now w c.args.totals.items c.push.new.self c.requires.fit c.requires.kind
    (c.in_ok-push.ensures.items ∙ ap (λ t. w.walked.totals.items ++ t ∷ []) c.from_vec.ensures.same) c.in-Ok-Done.heavy c.of.result c.of.ensures
    (sym (ap outcome_of c.in-Ok-Done.field-0-is) ∙ c.in-Ok-Done.ensures.outcome
    ∙ ap (λ ns. pruned w.walked.frontier ns c.settings.inside.threshold) c.deref.ensures.value
    ∙ ap (λ (s : CoreSettings). pruned w.walked.frontier c.args.totals.items s.walk.threshold) c.settings.view_is)

pub returns-in-Cap : goal.returns-in-Cap
returns-in-Cap c =
    let w = c.args.walker in
    leads-to-cap c.args.settings.now w c.args.totals.items c.push.new.self c.requires.fit c.requires.kind
    (c.in_ok-push.ensures.items ∙ ap (λ t. w.walked.totals.items ++ t ∷ []) c.from_vec.ensures.same) c.in-Cap.level c.in-Cap.wanted c.of-in-Cap.result c.of-in-Cap.ensures
    (sym (ap (λ ns. pruned w.walked.frontier ns c.settings.inside.threshold) c.deref.ensures.value
    ∙ ap (λ (s : CoreSettings). pruned w.walked.frontier c.args.totals.items s.walk.threshold) c.settings.view_is)
    ∙ subst (IsCause (pruned w.walked.frontier c.deref.result.now c.settings.inside.threshold)) c.in-Cap.is c.in-Err.ensures.cause)
