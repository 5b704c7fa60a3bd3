use Rattle.std.proofs.Common.{◌≡◌, ◌≤◌, ◌+◌, ◌-◌, [], length}
use Rattle.share_format.specs.Readings.{Fits, IsSound}
use Rattle.share_lists.specs.Steps.{GoOn, IsLater}
use Rattle.share_lists.proofs.reading.next_list.Given as goal

abbrev pub invariant-loop-shelf : goal.invariant-loop-shelf
invariant-loop-shelf g l = record {
  fits : Fits (g.H.Shelf.files l.shelf) l.reader;
  sound : IsSound l.reader;
  later : IsLater l.initial.reader l.reader;
  few : length l.shares ≤ l.most;
  passed : l.initial.reader.next + length l.shares ≤ l.reader.next;
  so_far : GoOn (g.H.Shelf.files l.initial.shelf) l.initial.reader [] l.initial.malformed l.reader l.shares l.malformed;
  kept : g.H.Shelf.files l.shelf ≡ g.H.Shelf.files l.initial.shelf;
  count : g.H.Shelf.faults l.initial.shelf ≤ g.H.Shelf.faults l.shelf;
}

abbrev pub decreases-loop-shelf : goal.decreases-loop-shelf
decreases-loop-shelf g l = l.reader.count - l.reader.next
