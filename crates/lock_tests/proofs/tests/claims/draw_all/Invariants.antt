use Rattle.std.proofs.Common.{◌≡◌, false}
use Rattle.lock_tests.proofs.tests.claims.draw_all.Given as goal

abbrev pub invariant-loop : goal.invariant-loop
invariant-loop g l =
    ((goal.iterator-loop g).can_next l.iterator' × (goal.iterator-loop g).is_finite l.iterator')
    × (l.drawer.claims ≡ l.claims.id) × (l.drawer.had_none ≡ false)
