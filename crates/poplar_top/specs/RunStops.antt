-- Why a run has no texts, as a reason to stop.
use Rattle.pair_run.specs.declared.answers.PairError.{PairError}
use Rattle.pair_run.specs.declared.answers.PairError.TheVariants as walks
use Rattle.file_run.specs.declared.errors.RunError.{RunError}
use Rattle.file_run.specs.declared.errors.RunError.TheVariants as runs
use Rattle.poplar_top.specs.declared.refusal.Refusal.TheVariants.{Widths, Walk}
use Rattle.poplar_top.specs.declared.walk_refusal.WalkRefusal.TheVariants as refused
use Rattle.poplar_top.specs.declared.stop.Stop.{Stop}
use Rattle.poplar_top.specs.declared.stop.Stop.TheVariants as stops
use Rattle.poplar_top.specs.Stops.{file_stop}

abbrev pub walk_stop : PairError → Stop
walk_stop (walks.Cap level wanted) = stops.Refusal (Walk (refused.Cap level wanted))
walk_stop walks.Link = stops.Link
walk_stop (walks.PeerMessage level kind at) = stops.Refusal (Walk (refused.PeerMessage level kind at))
walk_stop (walks.Views level kind place left right) = stops.Refusal (Walk (refused.Views level kind place left right))
walk_stop walks.Memory = stops.Memory

abbrev pub run_stop : RunError → Stop
run_stop (runs.File side e) = file_stop side e
run_stop (runs.Widths zero one) = stops.Refusal (Widths zero one)
run_stop (runs.Walk e) = walk_stop e
run_stop runs.Memory = stops.Memory
