use Rattle.std.proofs.Common.{◌≡◌, map, refl, sym, subst}
use Rattle.std.specs.String.{string_bytes}
use Rattle.shelf_io.specs.Texts.{GrewWithin}
use Rattle.command_words.specs.Seen.{run_seen}
use Rattle.poplar_top.specs.Commands.{runs}
use Rattle.poplar_top.specs.Keeps.{KeepsOf}
use Rattle.poplar_top.specs.Outcomes.Outcome.{texts}
use Rattle.shelf_io.specs.Seen.{outside}
use Rattle.poplar_top.specs.RunStops.{run_stop}
use Rattle.poplar_top.specs.Statuses.{Prints, ErrGets, OutFirst}
use Rattle.poplar_top.specs.Stops.{stop_status, stop_line}
use Rattle.poplar_top.proofs.RunSteps.{error_keeps, texts_keep}
use Rattle.poplar_top.proofs.UnreadSteps.{unread_run}
use Rattle.poplar_top.proofs.top.run_command.Goals as goal

pub returns-in-Ok-run_files : goal.returns-in-Ok-run_files
returns-in-Ok-run_files g c =
    let asked = c.in-Ok.asked in
    let settings = run_seen asked in
    let before = outside g.H.Shelf g.K.Sink g.E.Sink g.L.Link c.args.shelf.now c.args.out.now c.args.err.now c.args.link.now in
    let after = outside g.H.Shelf g.K.Sink g.E.Sink g.L.Link c.run_files.new.shelf c.write_texts.new.out c.write_texts.new.err c.run_files.new.link in
    let written = c.in-Ok-run_files.texts in
    texts_keep (map string_bytes c.args.words.now) settings (sym c.in-Ok.ensures.reads) before after written c.write_texts.result c.in-Ok-run_files.ensures c.write_texts.ensures.status
    (subst (λ text. Prints before.out.taken after.out.taken text c.write_texts.result) c.deref.ensures.value c.write_texts.ensures.out)
    (subst (λ text. ErrGets (texts text written.err.items) c.write_texts.result before.err.taken after.err.taken) c.deref.ensures.value
    (subst (λ lines. ErrGets (texts c.deref.result.now lines) c.write_texts.result before.err.taken after.err.taken) c.deref-in-Ok-run_files.ensures.value c.write_texts.ensures.err))
    (subst (λ text. OutFirst (texts text written.err.items) c.write_texts.result before.out after.out before.err after.err) c.deref.ensures.value
    (subst (λ lines. OutFirst (texts c.deref.result.now lines) c.write_texts.result before.out after.out before.err after.err) c.deref-in-Ok-run_files.ensures.value c.write_texts.ensures.order))
    c.write_texts.ensures.out_later c.write_texts.ensures.err_later

pub returns-in-Err-run_files : goal.returns-in-Err-run_files
returns-in-Err-run_files g c =
    let asked = c.in-Ok.asked in
    let settings = run_seen asked in
    let before = outside g.H.Shelf g.K.Sink g.E.Sink g.L.Link c.args.shelf.now c.args.out.now c.args.err.now c.args.link.now in
    let after = outside g.H.Shelf g.K.Sink g.E.Sink g.L.Link c.run_files.new.shelf c.args.out.now c.tell_stop.new.err c.run_files.new.link in
    let is : c.tell_stop.result ≡ stop_status (run_stop c.in-Err-run_files.error) = subst (λ stop. c.tell_stop.result ≡ stop_status stop) c.stop_of_run.ensures.value c.tell_stop.ensures.status in
    subst (λ n. KeepsOf runs (map string_bytes c.args.words.now) before after n) (sym is)
    (error_keeps (map string_bytes c.args.words.now) settings (sym c.in-Ok.ensures.reads) before after c.in-Err-run_files.error c.in-Err-run_files.ensures refl
    (subst (λ stop. GrewWithin before.err.taken after.err.taken (stop_line stop)) c.stop_of_run.ensures.value c.tell_stop.ensures.line) c.tell_stop.ensures.later)

pub returns-in-Err : goal.returns-in-Err
returns-in-Err g c =
    let before = outside g.H.Shelf g.K.Sink g.E.Sink g.L.Link c.args.shelf.now c.args.out.now c.args.err.now c.args.link.now in
    let after = outside g.H.Shelf g.K.Sink g.E.Sink g.L.Link c.args.shelf.now c.args.out.now c.tell_unread.new.err c.args.link.now in
    unread_run (map string_bytes c.args.words.now) before after c.in-Err.error refl refl refl c.tell_unread.ensures.later c.tell_unread.result
    c.tell_unread.ensures.status c.tell_unread.ensures.line c.in-Err.ensures.reads
