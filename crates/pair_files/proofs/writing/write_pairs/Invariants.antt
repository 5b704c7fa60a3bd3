use Rattle.std.proofs.Common.{◌≤◌, ◌+◌, ◌-◌, length}
use Rattle.pair_files.proofs.PairSteps.{HoldLines}
use Rattle.pair_files.proofs.writing.write_pairs.Given as goal

abbrev pub invariant-loop-line : goal.invariant-loop-line
invariant-loop-line g l = record {
  held : HoldLines (g.H.Shelf.files l.fn.shelf) (g.H.Shelf.files l.shelf) l.zero_name l.one_name l.settings l.strings l.line l.line;
  count : g.H.Shelf.faults l.fn.shelf ≤ g.H.Shelf.faults l.shelf;
  within : l.line ≤ length l.strings;
}

abbrev pub decreases-loop-line : goal.decreases-loop-line
decreases-loop-line g l = length l.strings - l.line

abbrev pub invariant-loop-place : goal.invariant-loop-place
invariant-loop-place g l = record {
  held : HoldLines (g.H.Shelf.files l.fn.shelf) (g.H.Shelf.files l.shelf) l.zero_name l.one_name l.settings l.strings (l.line + l.place) (l.line + l.place);
  count : g.H.Shelf.faults l.fn.shelf ≤ g.H.Shelf.faults l.shelf;
}
