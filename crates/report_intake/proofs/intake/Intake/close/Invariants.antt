use Rattle.std.proofs.Common.{◌≡◌, ◌++◌, vec_len}
use Rattle.std.specs.List.{AllByRecursion}
use Rattle.report_intake.proofs.intake.Intake.close.Given as goal

abbrev pub invariant-loop-pass : goal.invariant-loop-pass
invariant-loop-pass l =
    (l.ending.lock ≡ l.fn.self.lock)
    × (l.ending.passes ≡ l.fn.self.passes)
    × (l.passes.items ++ l.ending.handed ≡ l.fn.passes.items)
    × AllByRecursion (λ pass. pass.lock ≡ l.fn.self.lock) l.passes.items

abbrev pub decreases-loop-pass : goal.decreases-loop-pass
decreases-loop-pass l = vec_len l.passes
