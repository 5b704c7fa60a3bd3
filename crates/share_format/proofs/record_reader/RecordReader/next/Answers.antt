use Rattle.std.proofs.Common.{rules, ◌∙◌, length}
use Rattle.std.proofs.lemmas.List.{take_at}
use Rattle.share_format.proofs.ReaderLaws.{end_answer, given_answer}
use Rattle.share_format.proofs.record_reader.RecordReader.next.Goals as goal

pub returns-then-self-clause-exact : goal.returns-then-self-clause-exact
returns-then-self-clause-exact g c =
    end_answer (g.H.Shelf.files c.args.shelf.now) c.args.self.now c.requires.fits (search rules)

pub returns-clause-exact : goal.returns-clause-exact
returns-clause-exact g c =
    given_answer (g.H.Shelf.files c.args.shelf.now) c.args.self.now c.gather.new.into (length c.deref_mut.result.now) c.in_ok-filled.filled c.self.inside.next c.self.inside.width c.deref.result.now c.in_ok-record.record c.requires.fits
    (search rules) (search rules) (search rules) (search rules) c.in_ok-record.ensures.exact (search rules) (search rules)
    (c.deref.ensures.value ∙ take_at c.gather.new.into _ c.self.inside.buffer.len (search rules))
