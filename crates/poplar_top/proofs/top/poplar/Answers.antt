use Rattle.std.proofs.Common.{map, sym, subst}
use Rattle.std.specs.String.{string_bytes}
use Rattle.poplar_top.specs.Keeps.{KeepsOf}
use Rattle.shelf_io.specs.Seen.{outside, shelf_seen}
use Rattle.poplar_top.proofs.CommandSteps.{names_gen, names_run, names_find, names_make, names_none}
use Rattle.poplar_top.proofs.top.poplar.Goals as goal

pub returns-then-is_command : goal.returns-then-is_command
returns-then-is_command g c =
    let words = map string_bytes c.args.words.now in
    let before = outside g.H.Shelf g.K.Sink g.E.Sink g.L.Link c.args.shelf.now c.args.out.now c.args.err.now c.args.link.now in
    let after = outside g.H.Shelf g.K.Sink g.E.Sink g.L.Link c.gen_files.new.shelf c.args.out.now c.gen_files.new.err c.args.link.now in
    subst (λ command. KeepsOf command words before after c.gen_files.result)
    (sym (names_gen words c.is_command.result c.is_command.ensures.value c.if-is_command.true))
    (c.gen_files.ensures before.out before.link)

pub returns-then-is_command-2 : goal.returns-then-is_command-2
returns-then-is_command-2 g c =
    let words = map string_bytes c.args.words.now in
    let before = outside g.H.Shelf g.K.Sink g.E.Sink g.L.Link c.args.shelf.now c.args.out.now c.args.err.now c.args.link.now in
    let after = outside g.H.Shelf g.K.Sink g.E.Sink g.L.Link c.run_command.new.shelf c.run_command.new.out c.run_command.new.err c.run_command.new.link in
    subst (λ command. KeepsOf command words before after c.run_command.result)
    (sym (names_run words c.is_command.result c.is_command.ensures.value c.if-is_command.false
    c.is_command-else-is_command.result c.is_command-else-is_command.ensures.value c.if-is_command-2.true)) c.run_command.ensures

pub returns-then-is_command-3 : goal.returns-then-is_command-3
returns-then-is_command-3 g c =
    let words = map string_bytes c.args.words.now in
    let before = outside g.H.Shelf g.K.Sink g.E.Sink g.L.Link c.args.shelf.now c.args.out.now c.args.err.now c.args.link.now in
    let after = outside g.H.Shelf g.K.Sink g.E.Sink g.L.Link c.find_command.new.shelf c.find_command.new.out c.find_command.new.err c.find_command.new.link in
    subst (λ command. KeepsOf command words before after c.find_command.result)
    (sym (names_find words c.is_command.result c.is_command.ensures.value c.if-is_command.false
    c.is_command-else-is_command.result c.is_command-else-is_command.ensures.value c.if-is_command-2.false
    c.is_command-else-is_command-2.result c.is_command-else-is_command-2.ensures.value c.if-is_command-3.true)) c.find_command.ensures

pub returns-then-is_command-4 : goal.returns-then-is_command-4
returns-then-is_command-4 g c =
    let words = map string_bytes c.args.words.now in
    let before = outside g.H.Shelf g.K.Sink g.E.Sink g.L.Link c.args.shelf.now c.args.out.now c.args.err.now c.args.link.now in
    let after = outside g.H.Shelf g.K.Sink g.E.Sink g.L.Link c.args.shelf.now c.make_command.new.out c.make_command.new.err c.make_command.new.link in
    subst (λ command. KeepsOf command words before after c.make_command.result)
    (sym (names_make words c.is_command.result c.is_command.ensures.value c.if-is_command.false
    c.is_command-else-is_command.result c.is_command-else-is_command.ensures.value c.if-is_command-2.false
    c.is_command-else-is_command-2.result c.is_command-else-is_command-2.ensures.value c.if-is_command-3.false
    c.is_command-else-is_command-3.result c.is_command-else-is_command-3.ensures.value c.if-is_command-4.true))
    (c.make_command.ensures (shelf_seen g.H.Shelf c.args.shelf.now))

pub returns-else-is_command-4 : goal.returns-else-is_command-4
returns-else-is_command-4 g c =
    let words = map string_bytes c.args.words.now in
    let before = outside g.H.Shelf g.K.Sink g.E.Sink g.L.Link c.args.shelf.now c.args.out.now c.args.err.now c.args.link.now in
    let after = outside g.H.Shelf g.K.Sink g.E.Sink g.L.Link c.eval_file.new.shelf c.eval_file.new.out c.eval_file.new.err c.args.link.now in
    subst (λ command. KeepsOf command words before after c.eval_file.result)
    (sym (names_none words c.is_command.result c.is_command.ensures.value c.if-is_command.false
    c.is_command-else-is_command.result c.is_command-else-is_command.ensures.value c.if-is_command-2.false
    c.is_command-else-is_command-2.result c.is_command-else-is_command-2.ensures.value c.if-is_command-3.false
    c.is_command-else-is_command-3.result c.is_command-else-is_command-3.ensures.value c.if-is_command-4.false))
    (c.eval_file.ensures before.link)
