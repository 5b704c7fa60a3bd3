use Rattle.std.proofs.Common.{◌≡◌, map, Ok, Err, refl, sym, subst}
use Rattle.std.specs.String.{string_bytes}
use Rattle.shelf_io.specs.Texts.{GrewWithin}
use Rattle.command_words.specs.Seen.{make_seen}
use Rattle.poplar_top.specs.Commands.{makes}
use Rattle.poplar_top.specs.Keeps.{KeepsOf}
use Rattle.poplar_top.specs.Outcomes.Outcome.{texts}
use Rattle.file_find.specs.Keeps.{MakeKeeps}
use Rattle.poplar_top.specs.FindLinks.{outside_but_shelf}
use Rattle.poplar_top.specs.FindStops.{find_stop}
use Rattle.poplar_top.specs.Statuses.{Prints, ErrGets, OutFirst}
use Rattle.poplar_top.specs.Stops.{stop_status, stop_line}
use Rattle.poplar_top.proofs.FindSteps.{make_error_keeps, make_texts_keep}
use Rattle.poplar_top.proofs.UnreadSteps.{unread_make}
use Rattle.poplar_top.proofs.top.make_command.Goals as goal

pub returns-in-Ok-make_walk : goal.returns-in-Ok-make_walk
returns-in-Ok-make_walk g c = λ shelf.
    let asked = c.in-Ok.asked in
    let settings = make_seen asked in
    let before = outside_but_shelf g.K.Sink g.E.Sink g.L.Link shelf c.args.out.now c.args.err.now c.args.link.now in
    let after = outside_but_shelf g.K.Sink g.E.Sink g.L.Link shelf c.write_texts.new.out c.write_texts.new.err c.make_walk.new.link in
    let written = c.in-Ok-make_walk.texts in
    make_texts_keep (map string_bytes c.args.words.now) settings (sym c.in-Ok.ensures.reads) before after refl written c.write_texts.result
    (subst (λ rules. MakeKeeps settings.reports rules before.link after.link (Ok written)) c.make_rules-rules.ensures.value c.in-Ok-make_walk.ensures) c.write_texts.ensures.status
    (subst (λ text. Prints before.out.taken after.out.taken text c.write_texts.result) c.deref.ensures.value c.write_texts.ensures.out)
    (subst (λ text. ErrGets (texts text written.err.items) c.write_texts.result before.err.taken after.err.taken) c.deref.ensures.value
    (subst (λ lines. ErrGets (texts c.deref.result.now lines) c.write_texts.result before.err.taken after.err.taken) c.deref-in-Ok-make_walk.ensures.value c.write_texts.ensures.err))
    (subst (λ text. OutFirst (texts text written.err.items) c.write_texts.result before.out after.out before.err after.err) c.deref.ensures.value
    (subst (λ lines. OutFirst (texts c.deref.result.now lines) c.write_texts.result before.out after.out before.err after.err) c.deref-in-Ok-make_walk.ensures.value c.write_texts.ensures.order))
    c.write_texts.ensures.out_later c.write_texts.ensures.err_later

pub returns-in-Err-make_walk : goal.returns-in-Err-make_walk
returns-in-Err-make_walk g c = λ shelf.
    let asked = c.in-Ok.asked in
    let settings = make_seen asked in
    let before = outside_but_shelf g.K.Sink g.E.Sink g.L.Link shelf c.args.out.now c.args.err.now c.args.link.now in
    let after = outside_but_shelf g.K.Sink g.E.Sink g.L.Link shelf c.args.out.now c.tell_stop.new.err c.make_walk.new.link in
    let is : c.tell_stop.result ≡ stop_status (find_stop c.in-Err-make_walk.error) = subst (λ stop. c.tell_stop.result ≡ stop_status stop) c.stop_of_find.ensures.value c.tell_stop.ensures.status in
    subst (λ n. KeepsOf makes (map string_bytes c.args.words.now) before after n) (sym is)
    (make_error_keeps (map string_bytes c.args.words.now) settings (sym c.in-Ok.ensures.reads) before after refl c.in-Err-make_walk.error
    (subst (λ rules. MakeKeeps settings.reports rules before.link after.link (Err c.in-Err-make_walk.error)) c.make_rules-rules.ensures.value
    c.in-Err-make_walk.ensures) refl
    (subst (λ stop. GrewWithin before.err.taken after.err.taken (stop_line stop)) c.stop_of_find.ensures.value c.tell_stop.ensures.line) c.tell_stop.ensures.later)

pub returns-in-Err : goal.returns-in-Err
returns-in-Err g c = λ shelf.
    let before = outside_but_shelf g.K.Sink g.E.Sink g.L.Link shelf c.args.out.now c.args.err.now c.args.link.now in
    let after = outside_but_shelf g.K.Sink g.E.Sink g.L.Link shelf c.args.out.now c.tell_unread.new.err c.args.link.now in
    unread_make (map string_bytes c.args.words.now) before after c.in-Err.error refl refl refl c.tell_unread.ensures.later c.tell_unread.result
    c.tell_unread.ensures.status c.tell_unread.ensures.line c.in-Err.ensures.reads
