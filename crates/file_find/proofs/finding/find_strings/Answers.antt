use Rattle.std.proofs.Common.{List, Bool, refl, subst}
use Rattle.answer_text.specs.AnswerText.{answer_text}
use Rattle.shelf_io.specs.Seen.{link_seen, sources}
use Rattle.file_find.specs.Keeps.{TellsKeeps}
use Rattle.file_find.proofs.FindSteps.{find_refused, find_told}
use Rattle.file_find.proofs.finding.find_strings.Goals as goal

pub returns-in-Err : goal.returns-in-Err
returns-in-Err g c =
    find_refused c.args.name.now c.args.rules.now
    (sources g.H.Shelf g.L.Link c.args.shelf.now c.args.link.now)
    (sources g.H.Shelf g.L.Link c.strings_of.new.shelf c.args.link.now)
    c.in-Err.error refl c.in-Err.ensures.kept c.in-Err.ensures.cause.later c.in-Err.ensures.cause.rose c.in-Err.ensures.refused

pub returns : goal.returns
returns g c =
    find_told c.args.name.now c.args.rules.now
    (sources g.H.Shelf g.L.Link c.args.shelf.now c.args.link.now)
    (sources g.H.Shelf g.L.Link c.strings_of.new.shelf c.tell_strings.new.link)
    c.in-Ok.strings.items c.tell_strings.result c.in-Ok.ensures.kept c.in-Ok.ensures.cause.later c.in-Ok.ensures.value
    (subst (λ (them : List (List Bool)). TellsKeeps answer_text c.args.rules.now them (link_seen g.L.Link c.args.link.now)
    (link_seen g.L.Link c.tell_strings.new.link) c.tell_strings.result) c.deref.ensures.value c.tell_strings.ensures)
