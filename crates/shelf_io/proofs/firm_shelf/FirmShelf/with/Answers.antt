use Rattle.std.proofs.Common.{◌≡◌, ℕ, List, [], Some, IsSome, Option, refl, sym, ap, ◌∙◌, subst}
use Rattle.std.specs.Prelude.{IsSome, Option}
use Rattle.std.specs.FinMap.{get, insert}
use Rattle.shelf_io.specs.Files.{Files, with_more}
use Rattle.shelf_io.specs.Entries.{files_of}
use Rattle.shelf_io.proofs.FileLaws.{more_of_begun, get_inserted}
use Rattle.shelf_io.proofs.firm_shelf.FirmShelf.with.Goals as goal

some_of : {o : Option (List ℕ)} {x : List ℕ} → o ≡ Some x → IsSome o
some_of e = subst IsSome (sym e) refl

pub append_in-requires : goal.append_in-requires
append_in-requires c = some_of (ap (λ (m : Files). get m c.args.name.now) c.in_ok-begin_in.ensures.begun ∙ get_inserted _ c.args.name.now [])

pub returns : goal.returns
returns c = record {
  holds = c.in_ok-append_in.ensures.appended
      ∙ ap (with_more c.args.name.now c.args.bytes.now) c.in_ok-begin_in.ensures.begun
      ∙ more_of_begun (files_of c.self.inside.files.items) c.args.name.now c.args.bytes.now
      ∙ ap (λ (m : Files). insert m c.args.name.now c.args.bytes.now) c.self.view_is;
}
