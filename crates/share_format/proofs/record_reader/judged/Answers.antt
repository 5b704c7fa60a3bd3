use Rattle.std.proofs.Common.{arith}
use Rattle.share_format.proofs.FileLaws.{wrong_header, cut_file, whole_file}
use Rattle.share_format.proofs.HeaderSteps.{right_length}
use Rattle.share_format.proofs.record_reader.judged.Goals as goal

pub returns-in-Err-clause-exact : goal.returns-in-Err-clause-exact
returns-in-Err-clause-exact c bytes long front =
    wrong_header c.args.side bytes c.args.head.now c.args.size c.in-Err.at long c.requires.most front c.in-Err.ensures.refused

pub returns-then-rest-record-ne0-clause-exact : goal.returns-then-rest-record-ne0-clause-exact
returns-then-rest-record-ne0-clause-exact c bytes long front =
    cut_file c.args.side bytes c.args.head.now c.args.size c.in-Ok.header.width c.record_len-record.result long c.requires.most front
    c.in-Ok.ensures.right.0 c.in-Ok.ensures.right.1 c.record_len-record.ensures (omega (arith, right_length c.args.side c.args.head.now c.in-Ok.ensures.right.0)) c.if-rest-record-ne0.true

pub returns-clause-exact : goal.returns-clause-exact
returns-clause-exact c bytes long front =
    whole_file c.args.side bytes c.args.head.now c.args.size c.in-Ok.header.width c.record_len-record.result long c.requires.most front
    c.in-Ok.ensures.right.0 c.in-Ok.ensures.right.1 c.record_len-record.ensures c.if-rest-record-ne0.false
