use Rattle.std.proofs.Common.{◌∙◌, take}
use Rattle.std.proofs.lemmas.Result.{err_from_is_err_and}
use Rattle.share_format.proofs.ReaderLaws.{too_long_answer, front_there, length-room, refused_answer, opened_answer, opened_fits}
use Rattle.share_format.proofs.record_reader.RecordReader.open.Goals as goal

pub returns-then-size-gt-MOST_BYTES-clause-exact :
    goal.returns-then-size-gt-MOST_BYTES-clause-exact
returns-then-size-gt-MOST_BYTES-clause-exact g c =
    too_long_answer (g.H.Shelf.files c.args.shelf.now) c.args.name.now c.args.side c.in_ok-size.field-0 c.in-Some.size c.in-Some.is
    c.in_ok-size.ensures.found c.if-size-gt-MOST_BYTES.true

pub returns-in_err-width-clause-exact : goal.returns-in_err-width-clause-exact
returns-in_err-width-clause-exact g c =
    let there = front_there (g.H.Shelf.files c.args.shelf.now) (g.H.Shelf.files c.length.new.self) c.args.name.now c.fill.new.into c.in_ok-size.field-0
    c.in-Some.size _ c.in_ok-filled.filled c.in_ok-size.ensures.kept c.in-Some.is c.in_ok-size.ensures.found
    (length-room c.in-Some.size c.min.result c.min.ensures) c.in_ok-filled.ensures.bytes in
    let returned = err_from_is_err_and c.from_residual-in_err-width.result c.from_residual-in_err-width.ensures.1 in
    rw (returned.1, returned.2)
    (refused_answer (g.H.Shelf.files c.args.shelf.now) c.args.name.now c.args.side c.in_err-width.field-0.0
    (take c.in_ok-filled.filled c.fill.new.into) c.in-Some.size c.in_err-width.ensures.exact there)

pub returns-clause-exact : goal.returns-clause-exact
returns-clause-exact g c =
    let there = front_there (g.H.Shelf.files c.args.shelf.now) (g.H.Shelf.files c.length.new.self) c.args.name.now c.fill.new.into c.in_ok-size.field-0
    c.in-Some.size _ c.in_ok-filled.filled c.in_ok-size.ensures.kept c.in-Some.is c.in_ok-size.ensures.found
    (length-room c.in-Some.size c.min.result c.min.ensures) c.in_ok-filled.ensures.bytes in
    rw c.in_ok-piece.ensures.empty (opened_answer (g.H.Shelf.files c.args.shelf.now) c.args.name.now c.args.side c.in_ok-width.width c.in_ok-width.count
    (take c.in_ok-filled.filled c.fill.new.into) c.in-Some.size c.in_ok-width.ensures.exact there)

pub returns-clause-fits : goal.returns-clause-fits
returns-clause-fits g c =
    let there = front_there (g.H.Shelf.files c.args.shelf.now) (g.H.Shelf.files c.length.new.self) c.args.name.now c.fill.new.into c.in_ok-size.field-0
    c.in-Some.size _ c.in_ok-filled.filled c.in_ok-size.ensures.kept c.in-Some.is c.in_ok-size.ensures.found
    (length-room c.in-Some.size c.min.result c.min.ensures) c.in_ok-filled.ensures.bytes in
    rw c.in_ok-piece.ensures.empty (opened_fits (g.H.Shelf.files c.args.shelf.now) (g.H.Shelf.files c.fill.new.shelf) c.args.name.now c.args.side c.in_ok-width.width c.in_ok-width.count
    (take c.in_ok-filled.filled c.fill.new.into) c.in-Some.size (c.in_ok-filled.ensures.kept ∙ c.in_ok-size.ensures.kept) c.in_ok-width.ensures.exact there)
