use Rattle.std.proofs.Common.{◌≡◌, map, refl, sym, subst}
use Rattle.std.specs.String.{string_bytes}
use Rattle.command_words.specs.Seen.{eval_seen}
use Rattle.poplar_top.specs.Commands.{evaluates}
use Rattle.poplar_top.specs.Keeps.{KeepsOf}
use Rattle.poplar_top.specs.Outcomes.Outcome.{texts}
use Rattle.shelf_io.specs.Seen.{outside_but_link}
use Rattle.poplar_top.specs.Statuses.{Prints, ErrGets, OutFirst}
use Rattle.shelf_io.specs.Texts.{GrewWithin}
use Rattle.poplar_top.specs.Stops.{eval_stop, stop_status, stop_line}
use Rattle.poplar_top.proofs.EvalSteps.{files_are, files_fit, error_own, error_shelf}
use Rattle.poplar_top.proofs.CommandSteps.{eval_error_keeps, eval_texts_keep}
use Rattle.poplar_top.proofs.UnreadSteps.{unread_eval}
use Rattle.poplar_top.proofs.top.eval_file.Goals as goal

pub returns-in-Ok-eval_texts : goal.returns-in-Ok-eval_texts
returns-in-Ok-eval_texts g c = λ link.
    let asked = c.in-Ok.asked in
    let settings = eval_seen asked in
    let before = outside_but_link g.H.Shelf g.K.Sink g.E.Sink c.args.shelf.now c.args.out.now c.args.err.now link in
    let after = outside_but_link g.H.Shelf g.K.Sink g.E.Sink c.eval_texts.new.shelf c.write_texts.new.out c.write_texts.new.err link in
    let written = c.in-Ok-eval_texts.written in let status = c.write_texts.result in
    eval_texts_keep (map string_bytes c.args.words.now) settings (sym c.in-Ok.ensures.reads) before after refl c.in-Ok-eval_texts.ensures.kept c.in-Ok-eval_texts.ensures.cause.later
    c.write_texts.ensures.err_later written.out.items written.err.items status c.write_texts.ensures.out_later (files_are settings before.shelf.files written c.in-Ok-eval_texts.ensures.exact) c.write_texts.ensures.status
    (subst (λ text. Prints before.out.taken after.out.taken text status) c.deref.ensures.value c.write_texts.ensures.out)
    (subst (λ text. ErrGets (texts text written.err.items) status before.err.taken after.err.taken) c.deref.ensures.value
    (subst (λ lines. ErrGets (texts c.deref.result.now lines) status before.err.taken after.err.taken) c.deref-in-Ok-eval_texts.ensures.value c.write_texts.ensures.err))
    (subst (λ text. OutFirst (texts text written.err.items) status before.out after.out before.err after.err) c.deref.ensures.value
    (subst (λ lines. OutFirst (texts c.deref.result.now lines) status before.out after.out before.err after.err) c.deref-in-Ok-eval_texts.ensures.value
    c.write_texts.ensures.order))

pub returns-in-Err-eval_texts : goal.returns-in-Err-eval_texts
returns-in-Err-eval_texts g c = λ link.
    let asked = c.in-Ok.asked in
    let settings = eval_seen asked in
    let words = map string_bytes c.args.words.now in
    let before = outside_but_link g.H.Shelf g.K.Sink g.E.Sink c.args.shelf.now c.args.out.now c.args.err.now link in
    let after = outside_but_link g.H.Shelf g.K.Sink g.E.Sink c.eval_texts.new.shelf c.args.out.now c.tell_stop.new.err link in
    let error = c.in-Err-eval_texts.error in
    let is : c.tell_stop.result ≡ stop_status (eval_stop asked.side error) =
    subst (λ stop. c.tell_stop.result ≡ stop_status stop) c.stop_of_eval.ensures.value c.tell_stop.ensures.status in
    subst (λ n. KeepsOf evaluates words before after n) (sym is)
    (eval_error_keeps words settings (sym c.in-Ok.ensures.reads) before after refl c.in-Err-eval_texts.ensures.kept c.in-Err-eval_texts.ensures.cause.later c.tell_stop.ensures.later
    (eval_stop asked.side error) refl (files_fit settings before.shelf.files error c.in-Err-eval_texts.ensures.exact) (error_own asked.side error)
    (λ shelf. c.in-Err-eval_texts.ensures.cause.rose (error_shelf asked.side error shelf))
    (subst (λ stop. GrewWithin before.err.taken after.err.taken (stop_line stop)) c.stop_of_eval.ensures.value c.tell_stop.ensures.line))

pub returns-in-Err : goal.returns-in-Err
returns-in-Err g c = λ link.
    let before = outside_but_link g.H.Shelf g.K.Sink g.E.Sink c.args.shelf.now c.args.out.now c.args.err.now link in
    let after = outside_but_link g.H.Shelf g.K.Sink g.E.Sink c.args.shelf.now c.args.out.now c.tell_unread.new.err link in
    unread_eval (map string_bytes c.args.words.now) before after c.in-Err.error refl refl refl c.tell_unread.ensures.later c.tell_unread.result
    c.tell_unread.ensures.status c.tell_unread.ensures.line c.in-Err.ensures.reads
