use Rattle.std.proofs.Common.{rules, ◌≡◌, length}
use Rattle.phase_state.proofs.Posts.{at_most_once, all_there, there_all}
use Rattle.phase_state.proofs.state.PhaseState.all_posted.Goals as goal

pub returns-clause-all : goal.returns-clause-all
returns-clause-all c =
    let there = all_there _ _ _ _ _ _ c.self.invariant in
    let back = there_all _ _ _ _ _ _ c.self.invariant in
    let log : c.len.result ≡ length c.self.inside.log.items = search rules in
    let marks : c.len-2.result ≡ length c.self.inside.marks.items = search rules in
    rw (← c.self.view_is, log, marks) (λ t. there (search rules), λ each. let e = back each in search rules)

pub returns-clause-once : goal.returns-clause-once
returns-clause-once c = rw (← c.self.view_is) (at_most_once _ _ _ _ _ _ c.self.invariant)
