use Rattle.std.proofs.Common.{◌≡◌, map, refl, sym, subst}
use Rattle.std.specs.String.{string_bytes}
use Rattle.shelf_io.specs.Seen.{shelf_and_err}
use Rattle.shelf_io.specs.Texts.{GrewWithin}
use Rattle.command_words.specs.Seen.{gen_seen}
use Rattle.poplar_top.specs.Commands.{generates}
use Rattle.poplar_top.specs.Keeps.{KeepsOf}
use Rattle.poplar_top.specs.Stops.{gen_stop, stop_status, stop_line}
use Rattle.poplar_top.proofs.CommandSteps.{gen_error_keeps, gen_made_keeps}
use Rattle.poplar_top.proofs.UnreadSteps.{unread_gen}
use Rattle.poplar_top.proofs.top.gen_files.Goals as goal

pub returns-in-Ok-make_files : goal.returns-in-Ok-make_files
returns-in-Ok-make_files g c = λ out link.
    let a = c.in-Ok.asked in
    let settings = gen_seen a in
    gen_made_keeps (map string_bytes c.args.words.now) settings (sym c.in-Ok.ensures.reads) (shelf_and_err g.H.Shelf g.E.Sink c.args.shelf.now c.args.err.now out link)
    (shelf_and_err g.H.Shelf g.E.Sink c.make_files.new.shelf c.args.err.now out link) refl refl c.in-Ok-make_files.ensures.cause.later refl c.in-Ok-make_files.ensures.made

pub returns-in-Err-make_files : goal.returns-in-Err-make_files
returns-in-Err-make_files g c = λ out link.
    let a = c.in-Ok.asked in
    let settings = gen_seen a in
    let words = map string_bytes c.args.words.now in
    let error = c.in-Err-make_files.error in
    let before = shelf_and_err g.H.Shelf g.E.Sink c.args.shelf.now c.args.err.now out link in
    let after = shelf_and_err g.H.Shelf g.E.Sink c.make_files.new.shelf c.tell_stop.new.err out link in
    let is : c.tell_stop.result ≡ stop_status (gen_stop error) =
    subst (λ stop. c.tell_stop.result ≡ stop_status stop) c.stop_of_gen.ensures.value c.tell_stop.ensures.status in
    subst (λ n. KeepsOf generates words before after n) (sym is)
    (gen_error_keeps words settings (sym c.in-Ok.ensures.reads) before after refl refl c.in-Err-make_files.ensures.cause.later error c.in-Err-make_files.ensures.stopped
    c.in-Err-make_files.ensures.cause.rose
    (subst (λ stop. GrewWithin before.err.taken after.err.taken (stop_line stop)) c.stop_of_gen.ensures.value c.tell_stop.ensures.line)
    c.tell_stop.ensures.later)

pub returns-in-Err : goal.returns-in-Err
returns-in-Err g c = λ out link.
    let before = shelf_and_err g.H.Shelf g.E.Sink c.args.shelf.now c.args.err.now out link in
    let after = shelf_and_err g.H.Shelf g.E.Sink c.args.shelf.now c.tell_unread.new.err out link in
    unread_gen (map string_bytes c.args.words.now) before after c.in-Err.error refl refl refl c.tell_unread.ensures.later c.tell_unread.result
    c.tell_unread.ensures.status c.tell_unread.ensures.line c.in-Err.ensures.reads
