use Rattle.std.proofs.Common.{◌≤◌, ◌-◌, length, take}
use Rattle.shelf_io.specs.Texts.{Grew}
use Rattle.shelf_io.proofs.writing.write_all.Given as goal

abbrev pub invariant-loop-done : goal.invariant-loop-done
invariant-loop-done g l = record {
  within : l.done ≤ length l.text;
  written : Grew (g.K.Sink.taken l.initial.sink) (g.K.Sink.taken l.sink) (take l.done l.text);
  count : g.K.Sink.faults l.initial.sink ≤ g.K.Sink.faults l.sink;
}

abbrev pub decreases-loop-done : goal.decreases-loop-done
decreases-loop-done g l = length l.text - l.done
