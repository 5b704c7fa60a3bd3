use Rattle.std.proofs.Common.{◌≤◌, ap, ◌∙◌, sym, length, true, arith}
use Rattle.std.proofs.lemmas.List.{length-replicate}
use Rattle.std.proofs.lemmas.Result.{err_from_is_err_and}
use Rattle.frontier_walk.specs.Frontiers.{first_frontier}
use Rattle.walk_definitions.specs.Walk.{done}
use Rattle.frontier_walk.specs.Outcomes.{outcome_of}
use Rattle.plain_walk.specs.Chosen.{chosen}
use Rattle.plain_walk.proofs.WholeWalk.{begins, answer_is, ended-by, next_has}
use Rattle.plain_walk.proofs.walking.walk.Goals as goal

pub levels-init : goal.levels-init
levels-init c =
    let bits = ap (λ s. s.bits) c.settings.view_is in
    let cap = ap (λ s. s.cap) c.settings.view_is in
    let some : 1 ≤ c.args.settings.now.bits = omega arith in
    record {
      flags = ap length c.in_ok-alive.ensures.value ∙ length-replicate (length c.args.batch.now) true;
      walked = begins c.args.settings.now c.args.batch.now c.in_ok-alive.alive.items c.in_ok-frontier.frontier some c.in_ok-alive.ensures.value
          (c.in_ok-frontier.ensures.value ∙ ap (λ n. first_frontier n c.settings.inside.cap) bits ∙ ap (first_frontier c.args.settings.now.bits) cap);
    }

pub returns-in_err-still_alive-clause-cause : goal.returns-in_err-still_alive-clause-cause
returns-in_err-still_alive-clause-cause c =
    let p = err_from_is_err_and c.from_residual-in_err-still_alive.result c.from_residual-in_err-still_alive.ensures.1 in
    rw (p.1, p.2)
    (ended-by c.args.settings.now c.args.batch.now (chosen c.levels.alive.items c.args.batch.now) c.levels.frontier c.levels.invariant.walked
    c.in_err-still_alive.field-0.0 c.in_err-still_alive.ensures.cause)

pub returns-in-Done-clause-answer : goal.returns-in-Done-clause-answer
returns-in-Done-clause-answer c =
    let outcome = sym (ap outcome_of c.in-Done.is) ∙ c.in_ok-still_alive.ensures.next in
    answer_is c.args.settings.now c.args.batch.now (chosen c.levels.alive.items c.args.batch.now) c.levels.frontier c.levels.invariant.walked
    c.in-Done.heavy.items (chosen c.in_ok-still_alive.field-0.alive.items c.args.batch.now) c.in_ok-still_alive.field-0.passed
    outcome c.in_ok-still_alive.ensures.live c.in_ok-still_alive.ensures.passed
    ∙ ap (λ level. done level c.in_ok-still_alive.field-0.passed c.in-Done.heavy.items) (sym c.level.ensures.value)

pub levels-preserved : goal.levels-preserved
levels-preserved c =
    let outcome = sym (ap outcome_of c.in-Level.is) ∙ c.in_ok-still_alive.ensures.next in
    record {
      flags = c.in_ok-still_alive.ensures.flags;
      walked = next_has c.args.settings.now c.args.batch.now (chosen c.levels.alive.items c.args.batch.now) c.levels.frontier c.levels.invariant.walked
          c.in-Level.next (chosen c.in_ok-still_alive.field-0.alive.items c.args.batch.now) outcome c.in_ok-still_alive.ensures.live;
    }
