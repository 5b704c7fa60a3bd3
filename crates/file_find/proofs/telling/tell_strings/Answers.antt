use Rattle.shelf_io.specs.Seen.{link_seen}
use Rattle.file_find.specs.Texts.{text_of}
use Rattle.file_find.proofs.TellSteps.{error_tells, texts_tell, no_texts_tell}
use Rattle.file_find.proofs.telling.tell_strings.Goals as goal

pub returns-in-Err : goal.returns-in-Err
returns-in-Err g c =
    error_tells (text_of c.args.out) c.args.rules.now c.args.strings.now c.requires.rules c.requires.whole c.requires.few
    (link_seen g.L.Link c.args.link.now) (link_seen g.L.Link c.walk_strings.new.link) c.in-Err.error c.in-Err.ensures

pub returns-in-Ok-texts_of : goal.returns-in-Ok-texts_of
returns-in-Ok-texts_of g c =
    texts_tell (text_of c.args.out) c.args.rules.now c.args.strings.now c.requires.rules c.requires.whole c.requires.few
    (link_seen g.L.Link c.args.link.now) (link_seen g.L.Link c.walk_strings.new.link) c.in-Ok.answer c.in-Ok.ensures
    c.in-Ok-texts_of.texts c.in-Ok-texts_of.ensures.out c.in-Ok-texts_of.ensures.err

pub returns : goal.returns
returns g c =
    no_texts_tell (text_of c.args.out) c.args.rules.now c.args.strings.now c.requires.rules c.requires.whole c.requires.few
    (link_seen g.L.Link c.args.link.now) (link_seen g.L.Link c.walk_strings.new.link) c.in-Ok.answer c.in-Ok.ensures
