use Rattle.std.proofs.Common.{◌≡◌, ◌≤◌, ◌-◌, length, take, drop}
use Rattle.shelf_io.specs.Files.{IfThere}
use Rattle.shelf_io.proofs.reading.fill.Given as goal

abbrev pub invariant-loop-filled : goal.invariant-loop-filled
invariant-loop-filled g l = record {
  within : l.filled ≤ length l.into;
  long : length l.into ≡ length l.initial.into;
  rest : drop l.filled l.into ≡ drop l.filled l.initial.into;
  kept : g.H.Shelf.files l.shelf ≡ g.H.Shelf.files l.initial.shelf;
  count : g.H.Shelf.faults l.initial.shelf ≤ g.H.Shelf.faults l.shelf;
  bytes : IfThere (g.H.Shelf.files l.initial.shelf) l.name (λ bytes.
      (l.filled ≤ length bytes - l.from) × (take l.filled l.into ≡ take l.filled (drop l.from bytes)));
}

abbrev pub decreases-loop-filled : goal.decreases-loop-filled
decreases-loop-filled g l = length l.initial.into - l.filled
