use Rattle.std.proofs.Common.{◌≡◌, map, Ok, Err, refl, sym, subst}
use Rattle.std.specs.String.{string_bytes}
use Rattle.shelf_io.specs.Texts.{GrewWithin}
use Rattle.command_words.specs.Seen.{find_seen}
use Rattle.poplar_top.specs.Commands.{finds}
use Rattle.poplar_top.specs.Keeps.{KeepsOf}
use Rattle.poplar_top.specs.Outcomes.Outcome.{texts}
use Rattle.file_find.specs.Keeps.{FindKeeps}
use Rattle.shelf_io.specs.Seen.{outside, sources_of}
use Rattle.poplar_top.specs.FindStops.{find_stop}
use Rattle.poplar_top.specs.Statuses.{Prints, ErrGets, OutFirst}
use Rattle.poplar_top.specs.Stops.{stop_status, stop_line}
use Rattle.poplar_top.proofs.FindSteps.{find_error_keeps, find_texts_keep}
use Rattle.poplar_top.proofs.UnreadSteps.{unread_find}
use Rattle.poplar_top.proofs.top.find_command.Goals as goal

pub returns-in-Ok-find_strings : goal.returns-in-Ok-find_strings
returns-in-Ok-find_strings g c =
    let asked = c.in-Ok.asked in
    let settings = find_seen asked in
    let before = outside g.H.Shelf g.K.Sink g.E.Sink g.L.Link c.args.shelf.now c.args.out.now c.args.err.now c.args.link.now in
    let after = outside g.H.Shelf g.K.Sink g.E.Sink g.L.Link c.find_strings.new.shelf c.write_texts.new.out c.write_texts.new.err c.find_strings.new.link in
    let written = c.in-Ok-find_strings.texts in
    find_texts_keep (map string_bytes c.args.words.now) settings (sym c.in-Ok.ensures.reads) before after written c.write_texts.result
    (subst (λ rules. FindKeeps settings.strings rules (sources_of before) (sources_of after) (Ok written)) c.find_rules-rules.ensures.value c.in-Ok-find_strings.ensures) c.write_texts.ensures.status
    (subst (λ text. Prints before.out.taken after.out.taken text c.write_texts.result) c.deref.ensures.value c.write_texts.ensures.out)
    (subst (λ text. ErrGets (texts text written.err.items) c.write_texts.result before.err.taken after.err.taken) c.deref.ensures.value
    (subst (λ lines. ErrGets (texts c.deref.result.now lines) c.write_texts.result before.err.taken after.err.taken) c.deref-in-Ok-find_strings.ensures.value c.write_texts.ensures.err))
    (subst (λ text. OutFirst (texts text written.err.items) c.write_texts.result before.out after.out before.err after.err) c.deref.ensures.value
    (subst (λ lines. OutFirst (texts c.deref.result.now lines) c.write_texts.result before.out after.out before.err after.err) c.deref-in-Ok-find_strings.ensures.value c.write_texts.ensures.order))
    c.write_texts.ensures.out_later c.write_texts.ensures.err_later

pub returns-in-Err-find_strings : goal.returns-in-Err-find_strings
returns-in-Err-find_strings g c =
    let asked = c.in-Ok.asked in
    let settings = find_seen asked in
    let before = outside g.H.Shelf g.K.Sink g.E.Sink g.L.Link c.args.shelf.now c.args.out.now c.args.err.now c.args.link.now in
    let after = outside g.H.Shelf g.K.Sink g.E.Sink g.L.Link c.find_strings.new.shelf c.args.out.now c.tell_stop.new.err c.find_strings.new.link in
    let is : c.tell_stop.result ≡ stop_status (find_stop c.in-Err-find_strings.error) = subst (λ stop. c.tell_stop.result ≡ stop_status stop) c.stop_of_find.ensures.value c.tell_stop.ensures.status in
    subst (λ n. KeepsOf finds (map string_bytes c.args.words.now) before after n) (sym is)
    (find_error_keeps (map string_bytes c.args.words.now) settings (sym c.in-Ok.ensures.reads) before after c.in-Err-find_strings.error
    (subst (λ rules. FindKeeps settings.strings rules (sources_of before) (sources_of after) (Err c.in-Err-find_strings.error)) c.find_rules-rules.ensures.value
    c.in-Err-find_strings.ensures) refl
    (subst (λ stop. GrewWithin before.err.taken after.err.taken (stop_line stop)) c.stop_of_find.ensures.value c.tell_stop.ensures.line) c.tell_stop.ensures.later)

pub returns-in-Err : goal.returns-in-Err
returns-in-Err g c =
    let before = outside g.H.Shelf g.K.Sink g.E.Sink g.L.Link c.args.shelf.now c.args.out.now c.args.err.now c.args.link.now in
    let after = outside g.H.Shelf g.K.Sink g.E.Sink g.L.Link c.args.shelf.now c.args.out.now c.tell_unread.new.err c.args.link.now in
    unread_find (map string_bytes c.args.words.now) before after c.in-Err.error refl refl refl c.tell_unread.ensures.later c.tell_unread.result
    c.tell_unread.ensures.status c.tell_unread.ensures.line c.in-Err.ensures.reads
