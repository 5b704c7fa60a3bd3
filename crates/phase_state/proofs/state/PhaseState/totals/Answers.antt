use Rattle.std.proofs.Common.{◌∙◌}
use Rattle.phase_state.proofs.Posts.{totals_whole}
use Rattle.phase_state.proofs.state.PhaseState.totals.Goals as goal

pub returns-clause-plain : goal.returns-clause-plain
returns-clause-plain c = rw (← c.self.view_is) (λ each kind. c.as_slice.ensures.value ∙ totals_whole _ _ _ _ _ _ c.self.invariant each kind)
