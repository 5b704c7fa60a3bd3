use Rattle.std.proofs.Common.{rules, ◌≡◌, false}
use Rattle.phase_workers.proofs.working.serve.Goals as goal

pub returns-in-Go-clause-kept : goal.returns-in-Go-clause-kept
returns-in-Go-clause-kept g c t all =
    let a = c.ask.ensures t in
    let r : g.G.Asked.rule c.args.shared.now.gate.now c.args.tile ≡ false = search rules in
    c.carry_out.ensures.kept (g.G.Asked.rule c.args.shared.now.gate.now) r all
