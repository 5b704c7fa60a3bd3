use Rattle.std.proofs.Common.{sym, ◌∙◌, ap, subst}
use Rattle.core_definitions.specs.Phase.{CoreSettings, HalfKept}
use Rattle.core_definitions.specs.System.{hands_of}
use Rattle.core_definitions.proofs.Carry.{kept-fresh}
use Rattle.phase_state.specs.Phases.{StateSeen}
use Rattle.half_events.specs.Stages.{phase_at}
use Rattle.half_events.proofs.Stepping.{read_off, fresh}
use Rattle.half_events.proofs.halves.begin_half.Goals as goal

pub returns-clause-fresh : goal.returns-clause-fresh
returns-clause-fresh c =
    let core = c.args.settings.now in
    let p = phase_at c.args.stage.now in
    let hands = c.in_ok-free_hands.field-0.items in
    ap (λ (s : StateSeen). read_off core p c.args.side 0 hands s.log c.args.cache.items) c.in_ok-state.ensures
    ∙ fresh core p c.args.side hands c.args.cache.items (c.in_ok-free_hands.ensures ∙ ap (λ (x : CoreSettings). hands_of x.workers) c.settings.view_is)

pub returns-clause-half : goal.returns-clause-half
returns-clause-half c =
    let core = c.args.settings.now in
    let p = phase_at c.args.stage.now in
    record {
      plan = c.plan_of-plan.ensures;
      same = ap (λ (s : StateSeen). s.plan) c.in_ok-state.ensures ∙ c.copy.ensures;
      kept = subst (HalfKept core p c.args.side) (sym (returns-clause-fresh c)) (kept-fresh core p c.args.side c.args.cache.items c.requires.cached);
    }
