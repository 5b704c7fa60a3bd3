use Rattle.std.proofs.Common.{◌≡◌, ◌≤◌, ◌-◌, true}
use Rattle.share_format.specs.Readings.{Fits, IsSound}
use Rattle.report_collection.specs.Collections.{shares_on, opposite}
use Rattle.file_run.specs.Readings.{Gathered}
use Rattle.file_run.proofs.side_file.collect_file.Given as goal

abbrev pub invariant-loop-malformed : goal.invariant-loop-malformed
invariant-loop-malformed g l = record {
  fits : Fits (g.H.Shelf.files l.shelf) l.reader;
  sound : IsSound l.reader;
  name : l.reader.name ≡ l.name;
  side : l.reader.side ≡ l.side;
  so_far : Gathered (g.H.Shelf.files l.shelf) l.reader true l.malformed (shares_on l.side l.collect);
  other : shares_on (opposite l.side) l.collect ≡ shares_on (opposite l.side) l.initial.collect;
  kept : g.H.Shelf.files l.shelf ≡ g.H.Shelf.files l.initial.shelf;
  count : g.H.Shelf.faults l.initial.shelf ≤ g.H.Shelf.faults l.shelf;
}

abbrev pub decreases-loop-malformed : goal.decreases-loop-malformed
decreases-loop-malformed g l = l.reader.count - l.reader.next
