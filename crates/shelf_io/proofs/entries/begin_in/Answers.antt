use Rattle.std.proofs.Common.{rules, ◌≡◌, List, None, sym, ap, ◌∙◌, subst}
use Rattle.shelf_io.specs.declared.entries.Entry.{Entry}
use Rattle.std.specs.FinMap.{get, insert}
use Rattle.shelf_io.specs.Entries.{IsPlace, files_of}
use Rattle.shelf_io.proofs.EntrySteps.{set_place, push_place, name_place}
use Rattle.shelf_io.proofs.entries.begin_in.Goals as goal

pub returns-in-Some-clause-begun : goal.returns-in-Some-clause-begun
returns-in-Some-clause-begun c =
    let place = subst (λ (es : List Entry). IsPlace es c.args.name.now c.in-Some.i) c.deref.ensures.value c.in-Some.ensures.found in
    set_place c.args.files.now.items c.args.name.now c.in-Some.i (record { name = c.index_mut.result.now.name; bytes = c.clear.new.self }) place
    (name_place c.args.files.now.items c.args.name.now c.in-Some.i c.index_mut.result.now place c.index_mut.ensures.value)
    ∙ ap (insert (files_of c.args.files.now.items) c.args.name.now) c.clear.ensures.items

pub returns-in_ok-push-in-None-clause-begun : goal.returns-in_ok-push-in-None-clause-begun
returns-in_ok-push-in-None-clause-begun c =
    let none : get (files_of c.args.files.now.items) c.args.name.now ≡ None = ap (λ (es : List Entry). get (files_of es) c.args.name.now) (sym c.deref.ensures.value) ∙ c.in-None.ensures.missing in
    ap files_of c.in_ok-push-in-None.ensures.items
    ∙ push_place c.args.files.now.items c.args.name.now (record { name = c.in_ok-to_owned-in-None.field-0; bytes = c.new.result }) none (search rules)
    ∙ ap (insert (files_of c.args.files.now.items) c.args.name.now) c.new.ensures.items
