use Rattle.std.proofs.Common.{◌≡◌, ◌+◌, ◌≤◌, ◌-◌, length, take, drop}
use Rattle.shelf_io.specs.Files.{IfThere}
use Rattle.share_format.specs.Pieces.{IsHeld}
use Rattle.share_format.proofs.gathering.gather.Given as goal

abbrev pub invariant-loop-filled : goal.invariant-loop-filled
invariant-loop-filled g l = record {
  within : l.filled ≤ length l.into;
  long : length l.into ≡ length l.initial.into;
  place : l.piece.at ≡ l.from + l.filled;
  kept : g.H.Shelf.files l.shelf ≡ g.H.Shelf.files l.initial.shelf;
  count : g.H.Shelf.faults l.initial.shelf ≤ g.H.Shelf.faults l.shelf;
  held : IfThere (g.H.Shelf.files l.initial.shelf) l.name (λ bytes. IsHeld bytes l.piece);
  bytes : IfThere (g.H.Shelf.files l.initial.shelf) l.name (λ bytes.
      (l.filled ≤ length bytes - l.from) × (take l.filled l.into ≡ take l.filled (drop l.from bytes)));
}

abbrev pub decreases-loop-filled : goal.decreases-loop-filled
decreases-loop-filled g l = length l.initial.into - l.filled
