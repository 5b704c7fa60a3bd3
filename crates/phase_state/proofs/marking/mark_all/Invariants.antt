use Rattle.std.proofs.Common.{◌≡◌, ◌++◌, length, take, drop}
use Rattle.std.specs.Prelude.{◌||◌}
use Rattle.walk_definitions.specs.Heard.{paired}
use Rattle.phase_state.proofs.marking.mark_all.Given as goal

abbrev pub invariant-loop-place : goal.invariant-loop-place
invariant-loop-place l = record {
  same : length l.into ≡ length l.fn.into;
  joined : take l.place l.into ++ paired (λ a b. a || b) (drop l.place l.into) (drop l.place l.more) ≡ paired (λ a b. a || b) l.fn.into l.more;
}
