use Rattle.std.proofs.Common.{◌≡◌, ℕ, List, Some, get_or, sym, ap, ◌∙◌}
use Rattle.shelf_io.specs.declared.entries.Entry.{Entry}
use Rattle.shelf_io.proofs.EntrySteps.{get_place}
use Rattle.shelf_io.proofs.entries.bytes_under.Goals as goal

same_get : (es : List Entry) (i : ℕ) (x : Entry) → x ≡ get_or es i x → get_or es i x ≡ get_or es i (get_or es i x)
same_get es i x e = ap (get_or es i) e

pub returns : goal.returns
returns c = ap Some c.as_slice.ensures.value
    ∙ sym (get_place c.args.files.now c.args.name.now c.in_ok-i.i (get_or c.args.files.now c.in_ok-i.i c.index-files-i.result) c.in_ok-i.ensures.found (same_get c.args.files.now c.in_ok-i.i c.index-files-i.result c.index-files-i.is))
