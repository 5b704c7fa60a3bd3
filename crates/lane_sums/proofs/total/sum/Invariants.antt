use Rattle.std.proofs.Common.{◌≡◌, ◌*◌, ◌^◌, ◌≤◌, take, sum_by}
use Rattle.lane_sums.proofs.total.sum.Given as goal

abbrev pub invariant-loop-x : goal.invariant-loop-x
invariant-loop-x l = (l.total ≡ sum_by (λ x. x) (take l.x-index l.part)) × (l.total ≤ l.x-index * 2 ^ 64)
