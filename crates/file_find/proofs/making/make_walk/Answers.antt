use Rattle.std.proofs.Common.{List, Bool, subst}
use Rattle.shelf_io.specs.Seen.{link_seen}
use Rattle.file_find.specs.Keeps.{TellsKeeps}
use Rattle.file_find.specs.Texts.{summary_text}
use Rattle.file_find.proofs.FindSteps.{make_refused, make_told}
use Rattle.file_find.proofs.making.make_walk.Goals as goal

pub returns-in-Err : goal.returns-in-Err
returns-in-Err g c =
    make_refused c.args.reports c.args.rules.now (link_seen g.L.Link c.args.link.now) c.in-Err.error c.in-Err.ensures.error

pub returns : goal.returns
returns g c =
    make_told c.args.reports c.args.rules.now (link_seen g.L.Link c.args.link.now) (link_seen g.L.Link c.tell_strings.new.link)
    c.in-Ok.strings.items c.tell_strings.result c.in-Ok.ensures.value
    (subst (λ (them : List (List Bool)). TellsKeeps summary_text c.args.rules.now them (link_seen g.L.Link c.args.link.now)
    (link_seen g.L.Link c.tell_strings.new.link) c.tell_strings.result) c.deref.ensures.value c.tell_strings.ensures)
