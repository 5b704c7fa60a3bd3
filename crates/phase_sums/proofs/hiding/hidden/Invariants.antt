use Rattle.std.proofs.Common.{◌≡◌, take, map}
use Rattle.phase_state.specs.Sums.{share_at}
use Rattle.phase_sums.specs.SideSums.{hidden_sum}
use Rattle.phase_sums.proofs.hiding.hidden.Given as goal

abbrev pub invariant-loop-k : goal.invariant-loop-k
invariant-loop-k l = l.hidden.items ≡ map (hidden_sum l.plan) (map (share_at l.plan.shares) (take l.k l.plan.live))
