use Rattle.std.proofs.Common.{◌∙◌, arith}
use Rattle.share_format.proofs.RecordLaws.{spelling-fields}
use Rattle.share_format.proofs.record_reading.read_record.Goals as goal

pub returns-clause-spelled : goal.returns-clause-spelled
returns-clause-spelled c =
    spelling-fields c.args.width c.args.bytes.now _ _ _ _ c.requires.long (λ i. omega (arith, c.type_inv.bytes i)) c.in_ok-words.ensures.passed
    c.id_at.ensures c.seed_at.ensures c.seed_at-2.ensures (c.from_vec.ensures.same ∙ c.in_ok-words.ensures.words)
