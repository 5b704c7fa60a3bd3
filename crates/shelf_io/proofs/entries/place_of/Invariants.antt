use Rattle.std.proofs.Common.{◌≡◌, ℕ, ◌+◌, drop}
use Rattle.std.specs.FinMap.{get}
use Rattle.shelf_io.specs.Entries.{IsPlace, files_of}
use Rattle.shelf_io.proofs.entries.place_of.Given as goal

abbrev pub invariant-loop-i : goal.invariant-loop-i
invariant-loop-i l = record {
  place : (j : ℕ) → IsPlace (drop l.i l.files) l.name j → IsPlace l.files l.name (l.i + j);
  none : get (files_of (drop l.i l.files)) l.name ≡ get (files_of l.files) l.name;
}
