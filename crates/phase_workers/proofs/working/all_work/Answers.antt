use Rattle.std.proofs.Common.{arith}
use Rattle.phase_workers.proofs.working.all_work.Goals as goal

pub returns : goal.returns
returns g c = record { done = λ k d less. c.serve_all.ensures.done k d (omega (arith, less, c.serve_all.ensures.count)) }
