use Rattle.report_collection.specs.Collections.{shares_on}
use Rattle.file_run.proofs.CollectSteps.{gathered_more}
use Rattle.file_run.proofs.side_file.collect_next.Goals as goal

pub returns-clause-so_far : goal.returns-clause-so_far
returns-clause-so_far g c =
    gathered_more (g.H.Shelf.files c.args.shelf.now) c.args.reader.now c.next_list.new.reader c.in_ok-part.part.more c.args.malformed.now c.next_list.new.malformed
    (shares_on c.args.side c.args.collect.now) c.in_ok-part.part.shares (shares_on c.args.side c.add.new.self)
    c.requires.so_far c.in_ok-part.ensures.so_far c.in_ok-part.ensures.all (rw c.into_vec.ensures.same at c.in_ok-add.ensures.added)
