use Rattle.std.proofs.Common.{rules, List, refl, subst}
use Rattle.shelf_io.specs.declared.entries.Entry.{Entry}
use Rattle.shelf_io.specs.Entries.{IsPlace}
use Rattle.shelf_io.proofs.EntrySteps.{set_kept, set_more}
use Rattle.shelf_io.proofs.entries.append_in.Goals as goal

pub returns-in_err-extend_from_slice-clause-refused : goal.returns-in_err-extend_from_slice-clause-refused
returns-in_err-extend_from_slice-clause-refused c =
    let place = subst (λ (es : List Entry). IsPlace es c.args.name.now c.in-Some.i) c.deref.ensures.value c.in-Some.ensures.found in
    let kept = set_kept c.args.files.now.items c.args.name.now c.in-Some.i c.index_mut.result.now (record { name = c.index_mut.result.now.name; bytes = c.extend_from_slice.new.self }) place c.index_mut.ensures.value refl c.in_err-extend_from_slice.ensures.items in
    search (rules, kept)

pub returns-clause-appended : goal.returns-clause-appended
returns-clause-appended c =
    let place = subst (λ (es : List Entry). IsPlace es c.args.name.now c.in-Some.i) c.deref.ensures.value c.in-Some.ensures.found in
    set_more c.args.files.now.items c.args.name.now c.in-Some.i c.index_mut.result.now (record { name = c.index_mut.result.now.name; bytes = c.extend_from_slice.new.self }) c.args.bytes.now place c.index_mut.ensures.value refl c.in_ok-extend_from_slice.ensures.items
