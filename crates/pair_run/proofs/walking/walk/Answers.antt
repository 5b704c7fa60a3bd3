use Rattle.std.proofs.Common.{sym, arith}
use Rattle.shelf_io.specs.Seen.{link_seen}
use Rattle.pair_run.specs.Places.{picked}
use Rattle.pair_run.specs.Rules.{rules_of}
use Rattle.pair_run.proofs.Keeping.{walk_keeps, no_memory_keeps}
use Rattle.pair_run.proofs.walking.walk.Goals as goal

pub returns : goal.returns
returns g c =
    let batch = c.args.batch.now in
    walk_keeps (rules_of c.args.settings.now) batch (link_seen g.K.Link c.args.link.now) (link_seen g.K.Link c.walk_from.new.link)
    (omega (arith, c.requires.settings.some_bits)) c.requires.settings.some_threshold c.requires.few c.walk_from.result
    c.in_ok-frontier.frontier (picked batch c.in_ok-live.live.items) c.in_ok-frontier.ensures.value (c.in_ok-live.ensures.whole batch (sym c.len.ensures))
    c.walk_from.ensures.answer c.walk_from.ensures.heard c.walk_from.ensures.truly c.walk_from.ensures.cause

pub returns-in_err-live : goal.returns-in_err-live
returns-in_err-live g c =
    no_memory_keeps (rules_of c.args.settings.now) c.args.batch.now (link_seen g.K.Link c.args.link.now) c.from_residual.result c.from_residual.ensures
