use Rattle.std.proofs.Common.{arith, ◌+◌, subst, sym}
use Rattle.idpf_lanes.specs.Stands.{Stand}
use Rattle.idpf_lanes.proofs.Standing.{copied_over}
use Rattle.idpf_lanes.proofs.depths.go_down.Goals as goal

pub returns-clause-stand : goal.returns-clause-stand
returns-clause-stand c =
    subst (λ ns. Stand c.args.share.now c.args.side (c.args.depth + 1) c.args.prefixes.now ns c.next_nodes-made.new.places)
    (sym (copied_over c.next_nodes-made.new.next c.copy_from_slice.new.self _ c.next_nodes-made.result (omega arith) c.copy_from_slice.ensures.after))
    c.next_nodes-made.ensures.stand
