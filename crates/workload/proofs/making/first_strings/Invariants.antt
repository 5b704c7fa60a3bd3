use Rattle.std.proofs.Common.{◌≡◌}
use Rattle.workload.specs.Workload.{workload_strings}
use Rattle.workload.proofs.making.first_strings.Given as goal

abbrev pub invariant-loop-line : goal.invariant-loop-line
invariant-loop-line l = l.found.items ≡ workload_strings l.width l.line
