use Rattle.std.proofs.Common.{rules}
use Rattle.std.specs.Int.{w64, to_le_bytes}
use Rattle.share_format.specs.Spelling.{block, bits_of}
use Rattle.share_format.proofs.WritingSteps.{six_added}
use Rattle.share_format.proofs.record_writing.put_block.Goals as goal

pub returns-clause-added : goal.returns-clause-added
unfolding block
returns-clause-added c =
    let word = c.args.word.now in
    six_added c.args.into.now.items word.seed (bits_of word) (to_le_bytes w64 word.u) (to_le_bytes w64 word.v) (to_le_bytes w64 word.a) (to_le_bytes w64 word.b)
    c.put.new.into.items c.put-2.new.into.items c.put-3.new.into.items c.put-4.new.into.items c.put-5.new.into.items c.put-6.new.into.items
    (search rules) (search rules) (search rules) (search rules) (search rules) (search rules)
