use Rattle.std.proofs.Common.{◌≡◌, ◌≤◌, ◌-◌, take}
use Rattle.shelf_io.specs.Files.{IfThere}
use Rattle.share_format.specs.ShareFile.{records}
use Rattle.share_format.specs.Readings.{Fits}
use Rattle.file_eval.specs.ValueLines.{value_lines, refused_lines}
use Rattle.file_eval.proofs.reading.all_texts.Given as goal

abbrev pub invariant-loop-written : goal.invariant-loop-written
invariant-loop-written g l = record {
  fits : Fits (g.H.Shelf.files l.shelf) l.reader;
  kept : g.H.Shelf.files l.shelf ≡ g.H.Shelf.files l.initial.shelf;
  later : g.H.Shelf.faults l.initial.shelf ≤ g.H.Shelf.faults l.shelf;
  name : l.reader.name ≡ l.initial.reader.name;
  width : l.reader.width ≡ l.initial.reader.width;
  out : IfThere (g.H.Shelf.files l.shelf) l.reader.name (λ bytes. l.written.out.items
      ≡ value_lines l.side l.prefix (take l.reader.next (records l.reader.width bytes)));
  err : IfThere (g.H.Shelf.files l.shelf) l.reader.name (λ bytes. l.written.err.items
      ≡ refused_lines l.side (take l.reader.next (records l.reader.width bytes)));
}

abbrev pub decreases-loop-written : goal.decreases-loop-written
decreases-loop-written g l = l.reader.count - l.reader.next
