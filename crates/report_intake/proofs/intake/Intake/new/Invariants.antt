use Rattle.std.proofs.Common.{◌≡◌}
use Rattle.report_intake.proofs.intake.Intake.new.Given as goal

abbrev pub invariant-loop-pass : goal.invariant-loop-pass
invariant-loop-pass l = l.made.items ≡ l.yielded
