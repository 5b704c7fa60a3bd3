use Rattle.std.proofs.Common.{arith, ◌∙◌, sym}
use Rattle.peer_exchange.proofs.Headers.{ended_here, differs_here}
use Rattle.peer_exchange.proofs.header.header_fault.Goals.{then-at-bytes-via-then-at-bytes, then-at-bytes-via-else-at-bytes+then-bytes-at}
use Rattle.peer_exchange.proofs.header.header_fault.Goals as goal

pub returns-then-at-bytes-clause-fault : goal.returns-then-at-bytes-clause-fault
returns-then-at-bytes-clause-fault c = sym (c.loop-at.invariant.same ∙ elim c.then-at-bytes.branch [
  | then-at-bytes-via-then-at-bytes w ↦ ended_here c.args.header.now c.args.bytes.now c.loop-at.at (omega (arith, c.told-header)) (omega arith)
  | then-at-bytes-via-else-at-bytes+then-bytes-at w ↦ differs_here c.args.header.now c.args.bytes.now c.loop-at.at (omega (arith, c.told-header)) (omega arith) (λ same. w.if-bytes-at.true (sym same))
])
