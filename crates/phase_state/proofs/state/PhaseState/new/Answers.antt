use Rattle.std.proofs.Common.{rules}
use Rattle.phase_state.proofs.Posts.{fresh}
use Rattle.phase_state.proofs.state.PhaseState.new.Goals as goal

pub invariant_of-result : goal.invariant_of-result
invariant_of-result c = fresh c.args.plan _ _ _ _ _ c.requires (search rules) (search rules) (search rules) (search rules) (search rules)
